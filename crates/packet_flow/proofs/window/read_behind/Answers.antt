use Rattle.std.proofs.Common.{◌≡◌, ◌+◌, ◌++◌, [], ◌∷◌, List, length, arith, ◌∙◌, ap, sym, subst, length-append, append_assoc}
use Rattle.std.specs.List.{All}
use Rattle.std.proofs.lemmas.Grind.{common_steps}
use Rattle.std.proofs.lemmas.List.{map-append}
use Rattle.std.proofs.lemmas.List.Elements.{All-push}
use Rattle.capture_io.specs.Capture.{Rec, view}
use Rattle.capture_io.specs.declared.header.Record.{Record}
use Rattle.capture_io.specs.Limits.{IsSmall}
use Rattle.packet_flow.specs.Window.{views}
use Rattle.packet_flow.proofs.WholeReading.{read_more, stopped, read_on}
use Rattle.packet_flow.proofs.window.read_behind.Goals as goal

pub returns-in-Err-clause-read : goal.returns-in-Err-clause-read
returns-in-Err-clause-read g c told bytes given so =
    stopped c.args.header.now.big bytes (given ++ views c.loop-n.waiting.items) c.loop-n.place (g.S.Source.left c.loop-n.src) c.in-Err.stop (c.loop-n.invariant.read told bytes given so) (c.in-Err.ensures.stop told)

pub returns-in_default-clause-read : goal.returns-in_default-clause-read
returns-in_default-clause-read g c told bytes given so rs rest all =
    let same : c.push_back.new.self.items ≡ c.loop-n.waiting.items = grind (arith, common_steps) in
    let front = c.loop-n.invariant.read told bytes given so rs rest all in
    (front.0, front.1 ∙ ap (λ (l : List Record). (given ++ views l) ++ front.0) (sym same))

pub loop-n-preserved : goal.loop-n-preserved
loop-n-preserved g c =
    let big = c.args.header.now.big in
    let rec = c.in-Ok.rec in
    let inv = c.loop-n.invariant in
    let pushed : c.push_back.new.self.items ≡ c.loop-n.waiting.items ++ rec ∷ [] = grind (arith, common_steps) in
    let count : length c.push_back.new.self.items ≡ length c.loop-n.waiting.items + 1 = ap length pushed ∙ length-append c.loop-n.waiting.items (rec ∷ []) in
    let seen : views c.push_back.new.self.items ≡ views c.loop-n.waiting.items ++ view rec ∷ [] = ap views pushed ∙ map-append view c.loop-n.waiting.items (rec ∷ []) in
    record {
      place = c.read_record.ensures.place;
      range = c.read_record.ensures.range;
      small = subst (All IsSmall) (sym pushed) (All-push IsSmall c.loop-n.waiting.items rec inv.small c.in-Ok.ensures.small);
      grown = (
        inv.grown.0 ++ view rec ∷ [],
        seen ∙ ap (λ (l : List Rec). l ++ view rec ∷ []) inv.grown.1 ∙ append_assoc (views c.args.waiting.now.items) inv.grown.0 (view rec ∷ []),
        omega (arith, inv.grown.2, length-append inv.grown.0 (view rec ∷ [])),
      );
      count = omega (arith, inv.count, count, c.in-Ok.ensures.more);
      read = λ told bytes given so. read_on big bytes (g.S.Source.left c.read_record.new.src) _ (given ++ views c.push_back.new.self.items) _ c.read_record.new.place
          (ap (λ (l : List Rec). given ++ l) seen ∙ sym (append_assoc given (views c.loop-n.waiting.items) (view rec ∷ []))) c.in-Ok.ensures.moved
          (read_more big bytes (given ++ views c.loop-n.waiting.items) c.loop-n.place (g.S.Source.left c.loop-n.src) (g.S.Source.left c.read_record.new.src) (view rec) (inv.read told bytes given so) (c.in-Ok.ensures.found told));
      later = omega (arith, inv.later, c.read_record.ensures.later);
    }
