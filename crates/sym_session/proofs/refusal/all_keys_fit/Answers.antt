use Rattle.std.proofs.Common.{rules, tests, ◌∙◌, sym}
use Rattle.std.proofs.lemmas.Iterator.{YieldsList-from_slice}
use Rattle.std.proofs.lemmas.Iterator.Search.{all_from_yields_List}
use Rattle.std.proofs.lemmas.List.Folds.{list_all-map}
use Rattle.crypto_model.specs.Session.{key_fits}
use Rattle.sym_session.specs.Xform.{transform_of}
use Rattle.sym_session.proofs.refusal.all_keys_fit.Goals as goal

pub returns : goal.returns
returns c =
    all_from_yields_List (λ x. key_fits (transform_of x)) _ _ _ c.all.ensures.ran (YieldsList-from_slice c.args.xforms.now cc)
    (λ x b q k. search (rules, tests)) ∙ sym (list_all-map key_fits transform_of c.args.xforms.now)
