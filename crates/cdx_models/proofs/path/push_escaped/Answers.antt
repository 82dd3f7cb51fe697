use Rattle.std.proofs.Common.{◌≡◌, ap, sym, ◌∙◌, arith}
use Rattle.std.specs.Prelude.{encode_utf8}
use Rattle.std.proofs.lemmas.Bool.Decides.{nat_tests}
use Rattle.cdx_models.specs.Path.{escaped}
use Rattle.cdx_models.proofs.Escapes.{escaped-more, escaped-tilde, escaped-slash, escaped-other}
use Rattle.cdx_models.proofs.path.push_escaped.Goals as goal

pub loop-ch-preserved-in-Continue-1 : goal.loop-ch-preserved-in-Continue-1
loop-ch-preserved-in-Continue-1 c =
    let is : c.in-Some.ch ≡ 126 = grind (arith, nat_tests) in
    escaped-more _ _ _ _ c.loop-ch.yielded c.in-Some.ch c.loop-ch.invariant c.in_ok-push_str.ensures.bytes (escaped-tilde ∙ ap (λ x. escaped (encode_utf8 x)) (sym is))

pub loop-ch-preserved-in-Continue-branch-2 : goal.loop-ch-preserved-in-Continue-branch-2
loop-ch-preserved-in-Continue-branch-2 c =
    let is : c.in-Some.ch ≡ 47 = grind (arith, nat_tests) in
    escaped-more _ _ _ _ c.loop-ch.yielded c.in-Some.ch c.loop-ch.invariant c.in_ok-push_str-2.ensures.bytes (escaped-slash ∙ ap (λ x. escaped (encode_utf8 x)) (sym is))

pub loop-ch-preserved : goal.loop-ch-preserved
loop-ch-preserved c =
    let tilde : c.in-Some.ch ≡ 126 → ⊥ = grind (arith, nat_tests) in
    let slash : c.in-Some.ch ≡ 47 → ⊥ = grind (arith, nat_tests) in
    escaped-more _ _ _ (encode_utf8 c.in-Some.ch) c.loop-ch.yielded c.in-Some.ch c.loop-ch.invariant c.in_ok-push.ensures.bytes (escaped-other c.in-Some.ch tilde slash)
