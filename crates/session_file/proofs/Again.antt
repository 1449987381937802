-- What was read so far is read again from its text, and is sound.
use Rattle.std.proofs.Common.{◌≡◌, ◌∙◌, ◌≤◌, ◌+◌, ◌++◌, ℕ, Bool, List, [], ◌∷◌, length, true, false, sym, ap, refl, arith, subst, Ok, append_assoc, append-nil, length-append}
use Rattle.std.specs.Prelude.{codes, nat_le}
use Rattle.std.specs.List.{All, flat_map, list_all}
use Rattle.std.proofs.lemmas.Bool.Decides.{nat_tests}
use Rattle.std.proofs.lemmas.Grind.{flat_map-append}
use Rattle.std.proofs.lemmas.List.Elements.{All-push}
use Rattle.std.proofs.lemmas.List.Folds.{list_all-append}
use Rattle.session_file.specs.declared.plan.Choice.{Choice}
use Rattle.session_file.specs.declared.plan.Named.{Named}
use Rattle.session_file.specs.declared.plan.Plan.{Plan}
use Rattle.session_file.specs.declared.plan.Rule.{Rule}
use Rattle.session_file.specs.Text.{lines_of}
use Rattle.session_file.specs.Value.{is_name}
use Rattle.session_file.specs.Plan.{no_lines, plan_of, read_from, read_words}
use Rattle.session_file.specs.Sound.{IsSound, IsSoundSession, choice_holds}
use Rattle.session_file.specs.Spelling.{default_text, rule_text, session_text, spelling}
use Rattle.session_file.proofs.Leads.{Leads, Leads-line, Leads-none, Leads-then}
use Rattle.session_file.proofs.SessionLines.{above}
use Rattle.session_file.proofs.RuleLines.{IsChoice, IsRule, IsRule-more, closed, default_again, rule_again}
use Rattle.session_file.proofs.Sound.{choice_sound}

-- ---- rules

abbrev pub AreRules : List Named → List Rule → Type 0
AreRules ss [] = Unit {0}
AreRules ss (r ∷ rs) = IsRule ss r × AreRules ss rs

AreRules-more : (ss more : List Named) (rs : List Rule) → AreRules ss rs → AreRules (ss ++ more) rs
AreRules-more ss more [] are = tt
AreRules-more ss more (r ∷ rs) are = (IsRule-more ss more r are.0, AreRules-more ss more rs are.1)

AreRules-push : (ss : List Named) (rs : List Rule) (r : Rule) → AreRules ss rs → IsRule ss r → AreRules ss (rs ++ r ∷ [])
AreRules-push ss [] r are is = (is, tt)
AreRules-push ss (x ∷ rs) r are is = (are.0, AreRules-push ss rs r are.1 is)

rules_sound : (ss : List Named) (rs : List Rule) → AreRules ss rs → list_all (λ r. choice_holds ss r.choice) rs ≡ true
rules_sound ss [] are = refl
rules_sound ss (r ∷ rs) are = rw (choice_sound ss r.choice are.0.choice, rules_sound ss rs are.1) refl

rules_again : (ss : List Named) (front rs : List Rule) → AreRules ss rs → length front + length rs ≤ 1024
    → Leads (above ss front) (flat_map (rule_text ss) rs) (above ss (front ++ rs))
rules_again ss front [] are few = subst (λ (x : List Rule). Leads (above ss front) [] (above ss x)) (sym (append-nil front)) (Leads-none (above ss front))
rules_again ss front (r ∷ rs) are few =
    let size : length (front ++ r ∷ []) ≡ length front + 1 = length-append front (r ∷ []) in
    let room : nat_le 1024 (length front) ≡ false = grind (arith, nat_tests) in
    let one = rule_again ss front r are.0 room in
    let rest = rules_again ss (front ++ r ∷ []) rs are.1 (omega arith) in
    subst (λ (x : List Rule). Leads (above ss front) (flat_map (rule_text ss) (r ∷ rs)) (above ss x)) (append_assoc front (r ∷ []) rs)
    (Leads-then (above ss front) (above ss (front ++ r ∷ [])) (above ss ((front ++ r ∷ []) ++ rs)) (rule_text ss r) (flat_map (rule_text ss) rs) one rest)

-- ---- what was read so far is read again, and is sound

abbrev pub is_named : Named → Bool
is_named s = is_name s.name

pub record Again (ss : List Named) (rs : List Rule) : Type 0 where
  pub names : list_all is_named ss ≡ true
  pub sound : All IsSoundSession ss
  pub room : length ss ≤ 1024
  pub sessions : Leads (above [] []) (flat_map session_text ss) (above ss [])
  pub rules : AreRules ss rs
  pub few : length rs ≤ 1024

pub Again-session : (ss : List Named) (rs : List Rule) (s : Named) → Again ss rs → is_named s ≡ true → IsSoundSession s → nat_le 1024 (length ss) ≡ false
    → Leads (above ss []) (session_text s) (above (ss ++ s ∷ []) []) → Again (ss ++ s ∷ []) rs
Again-session ss rs s again named sound room line =
    let size : length (ss ++ s ∷ []) ≡ length ss + 1 = length-append ss (s ∷ []) in
    let text : flat_map session_text (ss ++ s ∷ []) ≡ flat_map session_text ss ++ session_text s =
    flat_map-append session_text ss (s ∷ []) ∙ ap (λ (x : List ℕ). flat_map session_text ss ++ x) (append-nil (session_text s)) in
    record {
      names = list_all-append is_named ss (s ∷ []) ∙ rw (again.names, named) refl;
      sound = All-push IsSoundSession ss s again.sound sound;
      room = grind (arith, nat_tests);
      sessions = subst (λ (x : List ℕ). Leads (above [] []) x (above (ss ++ s ∷ []) [])) (sym text)
          (Leads-then (above [] []) (above ss []) (above (ss ++ s ∷ []) []) (flat_map session_text ss) (session_text s) again.sessions line);
      rules = AreRules-more ss (s ∷ []) rs again.rules;
      few = again.few;
    }

pub Again-rule : (ss : List Named) (rs : List Rule) (r : Rule) → Again ss rs → IsRule ss r → nat_le 1024 (length rs) ≡ false → Again ss (rs ++ r ∷ [])
Again-rule ss rs r again is room =
    let size : length (rs ++ r ∷ []) ≡ length rs + 1 = length-append rs (r ∷ []) in
    record {
      names = again.names;
      sound = again.sound;
      room = again.room;
      sessions = again.sessions;
      rules = AreRules-push ss rs r again.rules is;
      few = grind (arith, nat_tests);
    }

-- the plan's text leads to the plan, and the plan is sound
pub record Said (plan : Plan) : Type 0 where
  pub again : plan_of (spelling plan) ≡ Ok plan
  pub sound : IsSound plan

closed_said : (m : ℕ) (ss : List Named) (rs : List Rule) (c : Choice) → read_from m (closed ss rs c) (lines_of []) ≡ Ok (record { sessions = ss; rules = rs; otherwise = c })
unfolding read_from lines_of
closed_said m ss rs c = refl

said_again : (ss : List Named) (rs : List Rule) (c : Choice) → Again ss rs → IsChoice ss c
    → plan_of (spelling (record { sessions = ss; rules = rs; otherwise = c })) ≡ Ok (record { sessions = ss; rules = rs; otherwise = c })
unfolding plan_of spelling read_words
said_again ss rs c again is =
    let header : Leads no_lines (codes "capcrypt 1\n") (above [] []) =
    Leads-line no_lines (above [] []) (codes "capcrypt") (codes "1" ∷ []) (record { some = refl; plain = refl }) (record { some = refl; plain = refl }, tt) refl refl in
    let sessions = Leads-then no_lines (above [] []) (above ss []) (codes "capcrypt 1\n") (flat_map session_text ss) header again.sessions in
    let rules = Leads-then no_lines (above ss []) (above ss rs) (codes "capcrypt 1\n" ++ flat_map session_text ss) (flat_map (rule_text ss) rs) sessions
    (rules_again ss [] rs again.rules (let few = again.few in omega arith)) in
    let whole = Leads-then no_lines (above ss rs) (closed ss rs c) (codes "capcrypt 1\n" ++ flat_map session_text ss ++ flat_map (rule_text ss) rs) (default_text ss c)
    rules (default_again ss rs c is) in
    let end = whole.to 1 [] in
    ap (λ (text : List ℕ). read_from 1 no_lines (lines_of text)) (sym (append-nil (codes "capcrypt 1\n" ++ flat_map session_text ss ++ flat_map (rule_text ss) rs ++ default_text ss c)))
    ∙ (end.1 ∙ closed_said end.0 ss rs c)

pub said : (ss : List Named) (rs : List Rule) (c : Choice) → Again ss rs → IsChoice ss c → Said (record { sessions = ss; rules = rs; otherwise = c })
said ss rs c again is = record {
  again = said_again ss rs c again is;
  sound = record { sessions = again.sound; few = again.room; few_rules = again.few; rules = rules_sound ss rs again.rules; otherwise = choice_sound ss c is };
}
