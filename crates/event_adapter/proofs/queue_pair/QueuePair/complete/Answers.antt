use Rattle.std.proofs.Common.{◌≡◌, ◌++◌, length, map, drop, refl, ap, ◌∙◌, arith}
use Rattle.std.specs.List.{All}
use Rattle.std.specs.List.Sorted.{IsPermutation}
use Rattle.std.proofs.lemmas.List.{length-map}
use Rattle.crypto_op.specs.Op.{entry_of}
use Rattle.crypto_op.specs.Op.{IsDone}
use Rattle.event_adapter.specs.Source.{event_of}
use Rattle.event_adapter.proofs.Answers.{events_behind, entries_are, answers_are, all_behind}
use Rattle.event_adapter.proofs.queue_pair.QueuePair.complete.Goals as goal

pub returns-clause-step : goal.returns-clause-step
returns-clause-step g c =
    let kind = c.args.kind in
    let id = c.args.self.now.id in
    let ops = c.dequeue_burst-n.new.out.ops in
    let all : drop (length c.args.scratch.now.ops) ops ≡ ops = all_behind c.args.scratch.now.ops ops c.requires.empty in
    let none : length c.args.scratch.now.ops ≡ 0 = ap length c.requires.empty in
    let held : IsPermutation (map entry_of ops ++ g.D.Driver.held c.dequeue_burst-n.new.self) (g.D.Driver.held c.args.self.now.dev) = rw all at c.dequeue_burst-n.ensures.held in
    let done : All (IsDone (g.D.Driver.sessions c.args.self.now.dev)) ops = rw all at c.dequeue_burst-n.ensures.done in
    let size : length (map (event_of kind id) ops) ≡ c.dequeue_burst-n.result = length-map ops (event_of kind id) ∙ omega (arith, c.dequeue_burst-n.ensures.count, none) in
    rw (events_behind kind id c.args.out.now c.join.new.out ops c.join.ensures.out) (record {
      id = refl;
      waiting = refl;
      answers = answers_are kind id (g.D.Driver.sessions c.args.self.now.dev) ops done;
      held = rw (entries_are kind id ops) held;
      in_order = λ o. rw (entries_are kind id ops) (rw all at (c.dequeue_burst-n.ensures.in_order o));
      kept = record {
        follows = c.dequeue_burst-n.ensures.follows;
        stalls = c.dequeue_burst-n.ensures.stalls;
        sessions = c.dequeue_burst-n.ensures.sessions;
        enqueued = grind (arith, c.dequeue_burst-n.ensures.stats);
      };
      within = omega (arith, size, c.dequeue_burst-n.ensures.within, c.room-room.ensures);
      cause = λ less. c.dequeue_burst-n.ensures.cause (omega (arith, size, less, c.room-room.ensures, c.requires.fits, none));
    })
