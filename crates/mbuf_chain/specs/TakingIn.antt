-- Bytes of a packet that are worked on where they lie.
use Rattle.std.specs.Prelude.{◌≡◌, ℕ, List, ◌++◌, length, take, drop}
use Rattle.mbuf_chain.specs.Chain.{packet_of}
use Rattle.mbuf_chain.specs.Cursors.{At, moved, rewritten}

-- from any text on, the next n bytes of c are taken in behind it, and what comes out lies in their place in d, which stands behind them
pub record TakesIn {W B : Type 0} (holds : B → W → List ℕ → Type 0) (made : B → List ℕ → List ℕ) (before after : W) (c d : At) (n : ℕ) : Type 0 where
  pub out : List ℕ
  pub size : length out ≡ n
  pub written : d ≡ moved n (rewritten out c)
  pub works : (begun : B) (text : List ℕ) → holds begun before text → holds begun after (text ++ take n (drop c.at (packet_of c.chain)))
      × (made begun (text ++ take n (drop c.at (packet_of c.chain))) ≡ made begun text ++ out)
