use Rattle.std.proofs.Common.{◌≡◌, ◌++◌, ◌∷◌, [], ap, sym, subst, ◌∙◌}
use Rattle.capture_io.specs.Capture.{view}
use Rattle.packet_flow.specs.Reads.{HasRead}
use Rattle.packet_flow.specs.Window.{Ahead, views}
use Rattle.packet_flow.proofs.Moving.{one_more}
use Rattle.packet_flow.proofs.WholeReading.{read_more, read_on, stopped}
use Rattle.packet_flow.proofs.window.Window.read_one.Goals as goal

pub returns-in-Ok-clause-read : goal.returns-in-Ok-clause-read
returns-in-Ok-clause-read g c told bytes given so =
    let big = c.args.header.now.big in
    let old = c.self.inside in
    let waiting = views old.waiting.items in
    let seen : HasRead big bytes (given ++ waiting) old.place (g.S.Source.left c.args.src.now) =
    subst (λ (w : Ahead). HasRead big bytes (given ++ w.waiting) w.place (g.S.Source.left c.args.src.now)) (sym c.self.view_is) so in
    let none : waiting ≡ [] = ap (λ (w : Ahead). w.waiting) c.self.view_is ∙ c.requires.none in
    read_on big bytes (g.S.Source.left c.read_record.new.src) _ (given ++ view c.in-Ok.rec ∷ waiting) _ c.read_record.new.place (one_more given waiting (view c.in-Ok.rec) none) c.in-Ok.ensures.moved
    (read_more big bytes (given ++ waiting) old.place (g.S.Source.left c.args.src.now) (g.S.Source.left c.read_record.new.src) (view c.in-Ok.rec) seen (c.in-Ok.ensures.found told))

pub returns-in-Err-clause-read : goal.returns-in-Err-clause-read
returns-in-Err-clause-read g c told bytes given so =
    let old = c.self.inside in
    stopped c.args.header.now.big bytes (given ++ views old.waiting.items) old.place (g.S.Source.left c.args.src.now) c.in-Err.stop
    (subst (λ (w : Ahead). HasRead c.args.header.now.big bytes (given ++ w.waiting) w.place (g.S.Source.left c.args.src.now)) (sym c.self.view_is) so) (c.in-Err.ensures.stop told)
