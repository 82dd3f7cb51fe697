use Rattle.std.proofs.Common.{◌≡◌, ℕ, rules, tests}
use Rattle.std.proofs.lemmas.Iterator.{IsFirst-from_position, YieldsList-from_slice}
use Rattle.cdx_gate.specs.Lines.{line_feed}
use Rattle.cdx_gate.proofs.LineLaws.{found_first}
use Rattle.cdx_gate.proofs.line.find_feed.Goals as goal

pub returns : goal.returns
returns c =
    found_first c.args.bytes.now c.position.result (IsFirst-from_position _ _ _ (λ (b : ℕ). b ≡ line_feed) (λ (b : ℕ). b ≡ line_feed → ⊥) c.position.ensures.ran (YieldsList-from_slice c.args.bytes.now cc) (λ x q k. search (rules, tests)) (λ x q k. search (rules, tests)))
