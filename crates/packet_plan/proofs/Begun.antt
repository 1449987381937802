-- A record whose plan chooses a session.
use Rattle.std.proofs.Common.{◌≡◌, ℕ, ◌<◌, ◌≤◌, List, [], ◌∷◌, length, get_or, map, Option, Some, slice_get, refl, ap, sym, subst, ◌∙◌, arith}
use Rattle.std.specs.Prelude.{if◌then◌else◌, Result, Ok, Err, IfOk, IsTrue, true, false}
use Rattle.std.proofs.lemmas.List.{length-map, get_or-map}
use Rattle.std.proofs.lemmas.Option.{slice_get_within, get_or_from_slice_get}
use Rattle.crypto_model.specs.declared.plain.CipherAlg.TheVariants.{AesCbc, AesCtr}
use Rattle.crypto_model.specs.declared.plain.SessId.{SessId}
use Rattle.crypto_model.specs.Process.{Transform, Cipher, Auth, Aead}
use Rattle.crypto_op.specs.declared.spec.Card.{Card}
use Rattle.crypto_op.specs.Op.{input_of, made}
use Rattle.capture_io.specs.Capture.{Rec}
use Rattle.session_file.specs.declared.plan.Choice.{Choice}
use Rattle.session_file.specs.declared.plan.Choice.TheVariants.{Pass, Use}
use Rattle.session_file.specs.declared.plan.Named.{Named}
use Rattle.session_file.specs.declared.plan.Plan.{Plan}
use Rattle.session_file.specs.declared.plan.Rule.{Rule}
use Rattle.session_file.specs.Sound.{choice_holds}
use Rattle.packet_plan.specs.declared.errand.Errand.{Errand}
use Rattle.packet_plan.specs.declared.session_way.SessionWay.{SessionWay}
use Rattle.packet_plan.specs.declared.written.Written.{Written}
use Rattle.packet_plan.specs.declared.written.Work.{Work}
use Rattle.packet_plan.specs.declared.written.Work.TheVariants as work
use Rattle.packet_plan.specs.declared.written.Fate.TheVariants.{Passed}
use Rattle.packet_plan.specs.Way.{way_of}
use Rattle.packet_plan.specs.Iv.{iv_of}
use Rattle.packet_plan.specs.Asked.{Chosen, Passes, TooShort, Works, chosen, chosen_from, asked, asked_by, asked_of, inputs_of, is_pass, is_too_short, lets_pass, packet_input, transforms_of}
use Rattle.packet_plan.specs.Answered.{answered_as}
use Rattle.packet_plan.specs.Work.{IsBegun, written_view}
use Rattle.packet_plan.specs.Ready.{IsBegunBy, IsReady, IsUsable, input_by, iv_by, ready_of, rule_of}
use Rattle.packet_plan.proofs.SoundPlans.{chosen_holds, named, skip_short}
use Rattle.packet_plan.proofs.UsableSessions.{all_usable}
use Rattle.packet_plan.proofs.Ways.{digests_len-most}

-- ---- a session's way

iv_by-rule : (ts : List Transform) (salt : List ℕ) (n : ℕ) → iv_by (rule_of ts salt) n ≡ iv_of ts salt n
unfolding iv_of
iv_by-rule [] salt n = refl
iv_by-rule (Cipher AesCtr dir key ∷ ts) salt n = refl
iv_by-rule (Cipher AesCbc dir key ∷ ts) salt n = refl
iv_by-rule (Aead dir key len aad_len ∷ ts) salt n = refl
iv_by-rule (Auth hash act key len ∷ ts) salt n = iv_by-rule ts salt n

input_by-ready : (s : Named) (e : Errand) (packet : List ℕ) → input_by (ready_of s) e packet ≡ packet_input e.session s e.skip e.card.packet packet
input_by-ready s e packet =
    let iv = iv_by-rule (transforms_of s) s.salt e.card.packet in
    ap (λ (iv : List ℕ). record (input_by (ready_of s) e packet) { iv = iv }) iv

digest_len-most : (s : Named) → IsUsable s → (way_of (transforms_of s)).digest_len ≤ 64
unfolding way_of
digest_len-most s is = digests_len-most (transforms_of s) is.made

-- the way at a session's number
pub way_there : (ss : List Named) (ways : List SessionWay) (i : ℕ) (s : Named) → ways ≡ map ready_of ss → slice_get ss i ≡ Some s
    → (i < length ways) × ((way : SessionWay) → way ≡ get_or ways i way → way ≡ ready_of s)
way_there ss ways i s is got =
    let within : i < length ss = slice_get_within ss i s got in (
      omega (arith, ap length is, length-map ss ready_of),
      λ way read. read ∙ ap (λ (l : List SessionWay). get_or l i way) is ∙ get_or-map ready_of ss i s way within ∙ ap ready_of (get_or_from_slice_get ss i s s got),
    )

-- a session that was chosen, and its way
pub record IsFound (plan : Plan) (ways : List SessionWay) (id : SessId) (skip : ℕ) (s : Named) : Type 0 where
  pub got : slice_get plan.sessions id.0 ≡ Some s
  pub within : id.0 < length ways
  pub ready : (way : SessionWay) → way ≡ get_or ways id.0 way → way ≡ ready_of s
  pub digest : (way_of (transforms_of s)).digest_len ≤ 64
  pub aad : IsTrue (way_of (transforms_of s)).aead → skip ≤ 255

-- the choice that was told of the plan's rules
pub told : (plan : Plan) (packet : List ℕ) (rules : List Rule) (choice : Choice) (flow : ℕ) → rules ≡ plan.rules
    → choice ≡ (chosen_from 0 rules plan.otherwise packet).choice → flow ≡ (chosen_from 0 rules plan.otherwise packet).flow
    → ((chosen_from 0 plan.rules plan.otherwise packet).choice ≡ choice) × ((chosen_from 0 plan.rules plan.otherwise packet).flow ≡ flow)
told plan packet rules choice flow are is counts =
    let same : chosen_from 0 plan.rules plan.otherwise packet ≡ chosen_from 0 rules plan.otherwise packet = ap (λ (rs : List Rule). chosen_from 0 rs plan.otherwise packet) (sym are) in
    (ap (λ (c : Chosen). c.choice) same ∙ sym is, ap (λ (c : Chosen). c.flow) same ∙ sym counts)

pub found : (plan : Plan) (ways : List SessionWay) (packet : List ℕ) (id : SessId) (skip : ℕ) → IsReady plan ways
    → (chosen_from 0 plan.rules plan.otherwise packet).choice ≡ Use id skip → (s : Named) × IsFound plan ways id skip s
found plan ways packet id skip ready is =
    let holds = ap (choice_holds plan.sessions) (sym is) ∙ chosen_holds plan.sessions plan.rules plan.otherwise packet 0 ready.sound.rules ready.sound.otherwise in
    let at = named plan.sessions id skip holds in
    let s = at.0 in
    let there = way_there plan.sessions ways id.0 s ready.ways at.1.got in
    let usable : IsUsable s =
    subst IsUsable (get_or_from_slice_get plan.sessions id.0 s s at.1.got) (all_usable plan ready.sound id.0 s (slice_get_within plan.sessions id.0 s at.1.got)) in (
      s,
      record {
        got = at.1.got;
        within = there.0;
        ready = there.1;
        digest = digest_len-most s usable;
        aad = skip_short s skip usable at.1.skips;
      },
    )

-- ---- what is asked for

-- the plan chooses this session, for this packet
pub record Chooses (plan : Plan) (packet : List ℕ) (s : Named) (e : Errand) : Type 0 where
  pub choice : (chosen_from 0 plan.rules plan.otherwise packet).choice ≡ Use e.session e.skip
  pub flow : (chosen_from 0 plan.rules plan.otherwise packet).flow ≡ e.card.flow
  pub got : slice_get plan.sessions e.session.0 ≡ Some s

asked_use : (plan : Plan) (packet : List ℕ) (s : Named) (e : Errand) → Chooses plan packet s e
    → asked plan e.card.packet packet ≡ (if is_too_short (way_of (transforms_of s)) e.skip (length packet) then TooShort else Works e.card (packet_input e.session s e.skip e.card.packet packet))
unfolding asked
asked_use plan packet s e is =
    let n = e.card.packet in
    ap (λ (c : Choice). asked_by plan (chosen_from 0 plan.rules plan.otherwise packet).flow c n packet) is.choice
    ∙ ap (λ (o : Option Named). asked_of o e.session e.skip (chosen_from 0 plan.rules plan.otherwise packet).flow n packet) is.got
    ∙ ap (λ (flow : ℕ). asked_of (Some s) e.session e.skip flow n packet) is.flow

asked_pass : (plan : Plan) (n : ℕ) (packet : List ℕ) → (chosen_from 0 plan.rules plan.otherwise packet).choice ≡ Pass → asked plan n packet ≡ Passes
unfolding asked
asked_pass plan n packet is = ap (λ (c : Choice). asked_by plan (chosen_from 0 plan.rules plan.otherwise packet).flow c n packet) is

-- ---- the record

-- no session is chosen
pub passes : (plan : Plan) (n i : ℕ) (r : Rec) (w : Written) → (chosen_from 0 plan.rules plan.otherwise r.packet).choice ≡ Pass
    → written_view w ≡ record { rec = r; fate = Passed } → IsBegun plan n i r (work.Ready w)
passes plan n i r w is view =
    let asks = asked_pass plan n r.packet is in
    (view ∙ ap (answered_as plan r) (sym asks), ap inputs_of asks)

pass_chosen : (c : Choice) → is_pass c ≡ true → c ≡ Pass
pass_chosen Pass is = refl
pass_chosen (Use id skip) is = absurd (let no : false ≡ true = is in cc)

-- the same, where the plan was asked
pub passes_as : (plan : Plan) (n i : ℕ) (r : Rec) (w : Written) → lets_pass plan r.packet ≡ true → written_view w ≡ record { rec = r; fate = Passed }
    → IsBegun plan n i r (work.Ready w)
passes_as plan n i r w is = passes plan n i r w (pass_chosen (chosen plan r.packet).choice is)

works : (plan : Plan) (r : Rec) (s : Named) (e : Errand) (w : Work) → Chooses plan r.packet s e → IsBegunBy (ready_of s) e r w → IsBegun plan e.card.packet e.pos r w
works plan r s e (work.Ready w) is (short, view) =
    let asks : asked plan e.card.packet r.packet ≡ TooShort = rw short at (asked_use plan r.packet s e is) in
    (view ∙ ap (answered_as plan r) (sym asks), ap inputs_of asks)
works plan r s e (work.Needs kept op) is at =
    let asks : asked plan e.card.packet r.packet ≡ Works e.card (packet_input e.session s e.skip e.card.packet r.packet) = rw at.long at (asked_use plan r.packet s e is) in
    record {
      asked = asks ∙ ap (Works e.card) (sym (at.input ∙ input_by-ready s e r.packet)) ∙ ap (λ (c : Card). Works c (input_of (made op))) (sym at.cargo);
      fresh = at.fresh;
      pos = at.pos;
      number = ap (λ (c : Card). c.packet) at.cargo;
      kept = at.kept;
    }

-- a session is chosen, and its way is known
pub begun_is : {E : Type 0} (plan : Plan) (r : Rec) (s : Named) (e : Errand) (way : SessionWay) (result : Result Work E) → Chooses plan r.packet s e → way ≡ ready_of s
    → IfOk result (IsBegunBy way e r) → IfOk result (IsBegun plan e.card.packet e.pos r)
begun_is plan r s e way (Ok w) is ready begun = works plan r s e w is (subst (λ (x : SessionWay). IsBegunBy x e r w) ready begun)
begun_is plan r s e way (Err x) is ready begun = tt
