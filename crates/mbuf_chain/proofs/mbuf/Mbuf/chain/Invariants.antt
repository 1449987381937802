use Rattle.mbuf_chain.proofs.mbuf.Mbuf.chain.Given as goal

abbrev pub ghosts-counted : goal.ghosts-counted
ghosts-counted a = record { name = a.blank.name; parts = a.blank.parts }
