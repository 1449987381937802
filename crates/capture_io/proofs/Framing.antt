-- A header and a record at the front of the bytes that are left.
use Rattle.std.proofs.Common.{◌≡◌, ℕ, Bool, true, false, ◌<◌, ◌≤◌, ◌==◌, List, [], ◌++◌, length, take, drop, Some, None, Result, Ok, Err, OnErr, nat_lt, arith, refl, ◌∙◌, ap, sym, append_assoc, length-take, length-append}
use Rattle.std.proofs.lemmas.List.{take_all}
use Rattle.std.proofs.lemmas.Bool.Decides.{nat_tests}
use Rattle.std.proofs.Math.Seq.{take-append_seam, drop-append_seam}
use Rattle.capture_io.specs.declared.header.Place.{Place}
use Rattle.capture_io.specs.declared.header.RecordHead.{RecordHead}
use Rattle.capture_io.specs.declared.header.CaptureCause.TheVariants.{ShortData}
use Rattle.capture_io.specs.Capture.{header_of, header_at, with_rest, head_of, limit_of, packet_at, record_at, Bad, Large, StopsPacket, StopsRecord}
use Rattle.capture_io.specs.declared.header.ReadStop.{ReadStop}
use Rattle.capture_io.specs.declared.header.ReadStop.TheVariants.{Fault, BadCapture, TooLarge, OutOfMemory}

-- the whole of a buffer was filled
pub filled : (n k : ℕ) (buf old new : List ℕ) → n ≡ k → length buf ≡ k → old ≡ take n buf ++ new → old ≡ buf ++ new
filled n k buf old new is len taken = taken ∙ ap (λ (l : List ℕ). l ++ new) (take_all n buf (omega arith))

take_front : (k : ℕ) (buf new : List ℕ) → length buf ≡ k → take k (buf ++ new) ≡ buf
take_front k buf new len = ap (λ (m : ℕ). take m (buf ++ new)) (sym len) ∙ take-append_seam buf new

drop_front : (k : ℕ) (buf new : List ℕ) → length buf ≡ k → drop k (buf ++ new) ≡ new
drop_front k buf new len = ap (λ (m : ℕ). drop m (buf ++ new)) (sym len) ∙ drop-append_seam buf new

no_shorter : (k : ℕ) (buf new : List ℕ) → length buf ≡ k → nat_lt (length (buf ++ new)) k ≡ false
no_shorter k buf new len = let whole : k ≤ length (buf ++ new) = omega (arith, length-append buf new) in grind (arith, nat_tests)

shorter : (k : ℕ) (bytes : List ℕ) → length bytes < k → nat_lt (length bytes) k ≡ true
shorter k bytes less = grind (arith, nat_tests)

pub header_whole : (buf old new : List ℕ) → length buf ≡ 24 → old ≡ buf ++ new → header_at old ≡ with_rest new (header_of buf)
header_whole buf old new len is =
    rw is (rw (no_shorter 24 buf new len, take_front 24 buf new len, drop_front 24 buf new len) refl)

pub record_whole : (big : Bool) (place : Place) (buf old new : List ℕ) → length buf ≡ 16 → old ≡ buf ++ new
    → record_at big place old ≡ packet_at place (head_of big buf) new (limit_of place.records (head_of big buf))
record_whole big place buf old new len is =
    let some : (length (buf ++ new) == 0) ≡ false = let long : 16 ≤ length (buf ++ new) = omega (arith, length-append buf new) in grind (arith, nat_tests) in
    rw is (rw (some, no_shorter 16 buf new len, take_front 16 buf new len, drop_front 16 buf new len) refl)

pub packet_whole : (place : Place) (h : RecordHead) (packet new rest : List ℕ) → length packet ≡ h.captured → new ≡ packet ++ rest
    → packet_at place h new None ≡ Ok (record { sec = h.sec; frac = h.frac; orig = h.orig; packet = packet }, rest)
packet_whole place h packet new rest len is =
    rw is (rw (no_shorter h.captured packet rest len, take_front h.captured packet rest len, drop_front h.captured packet rest len) refl)

pub packet_short : (place : Place) (h : RecordHead) (new : List ℕ) → length new < h.captured → packet_at place h new None ≡ Err (Bad place.at ShortData)
packet_short place h new less = rw (shorter h.captured new less) refl

-- what n bytes of a buffer leave where the source has ended
pub ended_length : (n : ℕ) (buf old : List ℕ) (new : List ℕ) → n ≤ length buf → new ≡ [] → old ≡ take n buf ++ new → length old ≡ n
ended_length n buf old new fits none is = ap length is ∙ length-append (take n buf) new ∙ omega (arith, length-take n buf, ap length none)

module _ (big : Bool) (place : Place) (buf old new : List ℕ) (h : RecordHead) (len : length buf ≡ 16) (is : old ≡ buf ++ new) (head : h ≡ head_of big buf) where
  same : packet_at place (head_of big buf) new (limit_of place.records (head_of big buf)) ≡ packet_at place h new (limit_of place.records h)
  same = ap (λ (x : RecordHead). packet_at place x new (limit_of place.records x)) (sym head)

  pub record_limit : (value : ℕ) → Some value ≡ limit_of place.records h → record_at big place old ≡ Err (Large value)
  record_limit value limit = record_whole big place buf old new len is ∙ same ∙ ap (packet_at place h new) (sym limit)

  pub record_fits : (packet rest : List ℕ) → None ≡ limit_of place.records h → length packet ≡ h.captured → new ≡ packet ++ rest
      → record_at big place old ≡ Ok (record { sec = h.sec; frac = h.frac; orig = h.orig; packet = packet }, rest)
  record_fits packet rest limit fits more = record_whole big place buf old new len is ∙ same ∙ ap (packet_at place h new) (sym limit) ∙ packet_whole place h packet new rest fits more

  pub record_lacks : None ≡ limit_of place.records h → length new < h.captured → record_at big place old ≡ Err (Bad place.at ShortData)
  record_lacks limit less = record_whole big place buf old new len is ∙ same ∙ ap (packet_at place h new) (sym limit) ∙ packet_short place h new less

pub on_err_from : {T E P : Type 0} (r : Result T E) → P → OnErr r P
on_err_from (Ok x) p = tt
on_err_from (Err e) p = p

-- two parts, one after the other
pub two_parts : (a b old mid new : List ℕ) → old ≡ a ++ mid → mid ≡ b ++ new → (bytes : List ℕ) × (old ≡ bytes ++ new)
two_parts a b old mid new first second = (a ++ b, first ∙ ap (λ (l : List ℕ). a ++ l) second ∙ sym (append_assoc a b new))

module _ (big : Bool) (place : Place) (buf old new : List ℕ) (h : RecordHead) (len : length buf ≡ 16) (is : old ≡ buf ++ new) (head : h ≡ head_of big buf) where
  -- a packet that could not be read stops its record
  pub packet_stops : None ≡ limit_of place.records h → (e : ReadStop) → StopsPacket h.captured place.at new e → StopsRecord big place old e
  packet_stops limit ReadStop.End stop = absurd stop
  packet_stops limit Fault stop = tt
  packet_stops limit (BadCapture at cause) stop = record_lacks big place buf old new h len is head limit stop.2 ∙ (let at_is = stop.0 in let cause_is = stop.1 in cc)
  packet_stops limit (TooLarge value) stop = absurd stop
  packet_stops limit OutOfMemory stop = tt
