use Rattle.std.proofs.Common.{◌≡◌, ◌++◌, take, drop, map, bit_xor}
use Rattle.hmac_core.proofs.key.put_under.Given as goal

abbrev pub invariant-loop-byte : goal.invariant-loop-byte
invariant-loop-byte l = l.block ≡ map (λ byte. bit_xor byte l.pad) (take l.byte-index l.initial.block) ++ drop l.byte-index l.initial.block
