use Rattle.std.proofs.Common.{arith}
use Rattle.cdx_component.specs.declared.component.Components.{out-Components}
use Rattle.cdx_component.proofs.Compared.{components_differ}
use Rattle.cdx_component.proofs.component.compared.+component_equal.Goals as goal

pub equal_components-returns-then-len : goal.equal_components-returns-then-len
equal_components-returns-then-len t c =
    components_differ c.args.one.now c.args.other.now (λ e.
    let one = (out-Components c.args.one.now).items.ok.0 in
    let other = (out-Components c.args.other.now).items.ok.0 in
    c.if-len.true (omega (arith, one, other, e)))
