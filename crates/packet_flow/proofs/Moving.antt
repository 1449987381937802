-- What reading does to a window, and to a capture on its way.
use Rattle.std.proofs.Common.{◌≡◌, ◌<◌, ◌++◌, ◌∷◌, ℕ, Bool, List, [], length, ap, sym, subst, ◌∙◌, inr}
use Rattle.std.specs.Prelude.{Option, Some, None, ◌⊎◌, Result, IfOk}
use Rattle.std.proofs.lemmas.List.{append-nil}
use Rattle.capture_io.specs.Capture.{Rec}
use Rattle.capture_io.specs.declared.header.ReadStop.{ReadStop}
use Rattle.capture_io.specs.declared.header.ReadStop.TheVariants.{Fault, BadCapture, OutOfMemory}
use Rattle.session_file.specs.declared.plan.Plan.{Plan}
use Rattle.packet_flow.specs.declared.flow.FlowEnd.{FlowEnd}
use Rattle.packet_flow.specs.declared.passage.Passage.{Passage}
use Rattle.packet_flow.specs.declared.window.Packet.{Packet}
use Rattle.packet_flow.specs.Filling.{StopsFlow}
use Rattle.packet_flow.specs.Packet.{put_back, with_given}
use Rattle.packet_flow.specs.Passage.{Before, IsUnderway, Outside}
use Rattle.packet_flow.specs.Reads.{GoesOn, HasRead, IsWholeStop, Moves}
use Rattle.packet_flow.specs.Window.{Ahead, IsInRange}
use Rattle.packet_flow.proofs.Begun.{moved_on}

-- one record more was given, and none waited
pub one_more : (given : List Rec) (waiting : List Rec) (r : Rec) → waiting ≡ [] → given ++ r ∷ waiting ≡ (given ++ waiting) ++ r ∷ []
one_more given waiting r none =
    ap (λ (l : List Rec). given ++ r ∷ l) none ∙ ap (λ (l : List Rec). l ++ r ∷ []) (sym (append-nil given) ∙ ap (λ (l : List Rec). given ++ l) (sym none))

-- the window w, in which none waits, was read on
pub moves_by_read : (big : Bool) (tells : Type 0) (left left' : List ℕ) (old w new : Ahead) (result : Option ReadStop) → w ≡ old → old.stop ≡ None → new.next ≡ w.next → new.stop ≡ result
    → (tells → (bytes : List ℕ) (given : List Rec) → HasRead big bytes (given ++ w.waiting) w.place left → GoesOn big bytes (given ++ new.waiting) new.place left' result)
    → IsInRange new → ((stop : ReadStop) → result ≡ Some stop → IsWholeStop stop × (tells → stop ≡ ReadStop.End → left' ≡ []))
    → Moves big tells left left' old new
moves_by_read big tells left left' old w new result same goes next stop_is reads range whole = record {
  reads = λ told bytes given so. subst (GoesOn big bytes (given ++ new.waiting) new.place left') (sym stop_is)
      (reads told bytes given (subst (λ (x : Ahead). HasRead big bytes (given ++ x.waiting) x.place left) (sym same) (subst (GoesOn big bytes (given ++ old.waiting) old.place left) goes so)));
  next = next ∙ ap (λ (x : Ahead). x.next) same;
  range = range;
  stops = λ stop is. inr (whole stop (sym stop_is ∙ is));
}

-- a stop that doesn't end the flow is a whole one
pub if_it_goes_on : (stop : ReadStop) (r : Result (Option Packet) FlowEnd) (P : Option Packet → Type 0) → StopsFlow stop r → (IsWholeStop stop → P None) → IfOk r P
if_it_goes_on ReadStop.End r P is here = subst (λ (x : Result (Option Packet) FlowEnd). IfOk x P) (sym is) (here tt)
if_it_goes_on (BadCapture at cause) r P is here = subst (λ (x : Result (Option Packet) FlowEnd). IfOk x P) (sym is) (here tt)
if_it_goes_on (ReadStop.TooLarge value) r P is here = subst (λ (x : Result (Option Packet) FlowEnd). IfOk x P) (sym is) (here tt)
if_it_goes_on Fault r P is here = subst (λ (x : Result (Option Packet) FlowEnd). IfOk x P) (sym is) tt
if_it_goes_on OutOfMemory r P is here = subst (λ (x : Result (Option Packet) FlowEnd). IfOk x P) (sym is) tt

-- The window moved on and this packet was taken: it counts as one that waits.
pub taken_up : (plan : Plan) (b : Before) (s_tells k_tells : Type 0) (p : Passage) (o : Outside) (big : Bool) (left left' wrote : List ℕ) (given : Option Packet) (packet : Packet) (w : Ahead)
    → (0 < length p.window.waiting) ⊎ (p.window.stop ≡ None) → given ≡ Some packet → Moves big s_tells left left' p.window (with_given given w)
    → b.big ≡ big → o.left ≡ left → o.written ≡ wrote → IsUnderway plan b s_tells k_tells p o
    → IsUnderway plan b s_tells k_tells (record p { window = put_back packet w }) (record o { left = left'; written = wrote })
taken_up plan b s_tells k_tells p o big left left' wrote given packet w some is m big_is left_is wrote_is u =
    moved_on plan b s_tells k_tells p o (put_back packet w) big left left' wrote some (subst (λ (x : Option Packet). Moves big s_tells left left' p.window (with_given x w)) is m) big_is left_is wrote_is u
