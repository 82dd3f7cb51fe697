use Rattle.std.proofs.Common.{◌≡◌, true, false, sym, ap, ◌∙◌}
use Rattle.std.specs.Str.{bytes_eq}
use Rattle.cdx_machine.specs.declared.or.Or.TheVariants.{This, Other}
use Rattle.cdx_machine.specs.Named.{named_holds}
use Rattle.cdx_machine.proofs.Named.{starts_alike}
use Rattle.cdx_machine.proofs.by_name.NamedMachineMachine.start.Goals as goal

pub returns-then-is : goal.returns-then-is
returns-then-is g c =
    let k = g.K.ByName in
    let named : bytes_eq c.args.opened.now.element.now.local_name k.one ≡ true = ap (bytes_eq c.args.opened.now.element.now.local_name) (sym c.first.ensures) ∙ (sym c.is.ensures ∙ c.if-is.true) in
    starts_alike k.kind g.K.First.Machine.kind (λ s. bytes_eq s k.one ≡ true) (λ n a s xs v p d h. g.met.K.ByName.by_name.by_one n a s xs v p d h) g.K.First.Machine.holds (λ m. named_holds k.one k.other g.K.First.Machine.holds g.K.Second.Machine.holds m) (λ m. This m) c.args.opened.now.version c.args.opened.now.place c.args.opened.now.element.now c.args.opened.now.attributes.now c.in_ok-start.field-0 named (λ d s h. (named, h)) c.in_ok-start.ensures

pub returns-then-is-2 : goal.returns-then-is-2
returns-then-is-2 g c =
    let k = g.K.ByName in
    let not_one : bytes_eq c.args.opened.now.element.now.local_name k.one ≡ false = ap (bytes_eq c.args.opened.now.element.now.local_name) (sym c.first.ensures) ∙ (sym c.is.ensures ∙ c.if-is.false) in
    let named : bytes_eq c.args.opened.now.element.now.local_name k.other ≡ true = ap (bytes_eq c.args.opened.now.element.now.local_name) (sym c.second.ensures) ∙ (sym c.is-2.ensures ∙ c.if-is-2.true) in
    starts_alike k.kind g.K.Second.Machine.kind (λ s. (bytes_eq s k.one ≡ false) × (bytes_eq s k.other ≡ true)) (λ n a s xs v p d h. g.met.K.ByName.by_name.by_other n a s xs v p d h.0 h.1) g.K.Second.Machine.holds (λ m. named_holds k.one k.other g.K.First.Machine.holds g.K.Second.Machine.holds m) (λ m. Other m) c.args.opened.now.version c.args.opened.now.place c.args.opened.now.element.now c.args.opened.now.attributes.now c.in_ok-start-2.field-0 (not_one, named) (λ d s h. (not_one, named, h)) c.in_ok-start-2.ensures
