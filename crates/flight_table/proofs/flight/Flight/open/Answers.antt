use Rattle.std.proofs.Common.{◌∙◌}
use Rattle.flight_table.proofs.Hands.{begins}
use Rattle.flight_table.proofs.flight.Flight.open.Goals as goal

pub vacant-requires : goal.vacant-requires
vacant-requires c = let a = c.in_ok-words.ensures in let b = c.as_slice.ensures in begins _ _ _ (b.value ∙ a.items_if_clones_equal (λ y e. e))
