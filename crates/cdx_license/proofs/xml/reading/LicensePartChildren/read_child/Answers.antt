use Rattle.std.proofs.Common.{refl, sym, ◌∙◌, true, false}
use Rattle.std.specs.Prelude.{codes}
use Rattle.cdx_models.specs.declared.bom.SpecVersion.TheVariants.{V1_5}
use Rattle.cdx_models.specs.Trees.{license}
use Rattle.cdx_schema.specs.Kinds as kinds
use Rattle.cdx_schema.specs.Table.{rows, list}
use Rattle.cdx_schema.specs.XmlReading.{record_plan, last}
use Rattle.cdx_license.specs.Parts.{license_part}
use Rattle.cdx_leaf.proofs.ChildSteps.{takes_one, takes_one_since, takes_none, takes_second, differs}
use Rattle.cdx_license.proofs.Identifiers.{identifier_second}
use Rattle.cdx_license.proofs.xml.reading.LicensePartChildren.read_child.Goals as goal

pub returns-then-is_some-clause-takes : goal.returns-then-is_some-clause-takes
unfolding rows
returns-then-is_some-clause-takes c =
    takes_second (record_plan license) c.args.opened.now.version c.args.opened.now.element.now c.args.opened.now.attributes.now (license_part c.args.self.now) c.args.reader.now (λ d. d) _ (sym c.as_str.ensures ∙ c.in-id.is) refl (identifier_second c.args.self.now.license_identifier true c.if-is_some.ensures)

pub returns-else-is_some-clause-takes : goal.returns-else-is_some-clause-takes
unfolding rows
returns-else-is_some-clause-takes c =
    takes_one (record_plan license) c.args.opened.now.version c.args.opened.now.element.now c.args.opened.now.attributes.now (license_part c.args.self.now) _ c.args.reader.now c.take_one.new.reader _ (λ d. d) _ c.take_one.result (sym c.as_str.ensures ∙ c.in-id.is) refl (identifier_second c.args.self.now.license_identifier false c.if-is_some.ensures) refl c.take_one.ensures

pub returns-then-is_some-2-clause-takes : goal.returns-then-is_some-2-clause-takes
unfolding rows
returns-then-is_some-2-clause-takes c =
    takes_second (record_plan license) c.args.opened.now.version c.args.opened.now.element.now c.args.opened.now.attributes.now (license_part c.args.self.now) c.args.reader.now (λ d. d) _ (sym c.as_str.ensures ∙ c.in-name.is) refl (identifier_second c.args.self.now.license_identifier true c.if-is_some-2.ensures)

pub returns-else-is_some-2-clause-takes : goal.returns-else-is_some-2-clause-takes
unfolding rows
returns-else-is_some-2-clause-takes c =
    takes_one (record_plan license) c.args.opened.now.version c.args.opened.now.element.now c.args.opened.now.attributes.now (license_part c.args.self.now) _ c.args.reader.now c.take_one-in-name.new.reader _ (λ d. d) _ c.take_one-in-name.result (sym c.as_str.ensures ∙ c.in-name.is) refl (identifier_second c.args.self.now.license_identifier false c.if-is_some-2.ensures) refl c.take_one-in-name.ensures

pub returns-in-text-clause-takes : goal.returns-in-text-clause-takes
unfolding rows list
returns-in-text-clause-takes c =
    takes_one (record_plan license) c.args.opened.now.version c.args.opened.now.element.now c.args.opened.now.attributes.now (license_part c.args.self.now) _ c.args.reader.now c.take_one-in-text.new.reader _ (λ d. d) _ c.take_one-in-text.result (sym c.as_str.ensures ∙ c.in-text.is) refl refl refl c.take_one-in-text.ensures

pub returns-in-url-clause-takes : goal.returns-in-url-clause-takes
unfolding rows list
returns-in-url-clause-takes c =
    takes_one (record_plan license) c.args.opened.now.version c.args.opened.now.element.now c.args.opened.now.attributes.now (license_part c.args.self.now) _ c.args.reader.now c.take_one-in-url.new.reader _ (λ d. d) _ c.take_one-in-url.result (sym c.as_str.ensures ∙ c.in-url.is) refl refl refl c.take_one-in-url.ensures

pub returns-in-properties-clause-takes : goal.returns-in-properties-clause-takes
unfolding rows list
returns-in-properties-clause-takes c =
    takes_one_since (record_plan license) c.args.opened.now.version c.args.opened.now.element.now c.args.opened.now.attributes.now (license_part c.args.self.now) _ c.args.reader.now c.take_one_since.new.reader (record { name = codes "properties"; since = V1_5; kind = kinds.a_list kinds.properties; field = 4; place = last }) (λ d. d) _ c.take_one_since.result (sym c.as_str.ensures ∙ c.in-properties.is) refl refl refl c.take_one_since.ensures.known (λ e. let u = c.take_one_since.ensures.unknown e in (rw (u.0) refl, u.1, u.2))

pub returns-in_default-clause-takes : goal.returns-in_default-clause-takes
unfolding rows
returns-in_default-clause-takes c =
    takes_none (record_plan license) c.args.opened.now.version c.args.opened.now.element.now c.args.opened.now.attributes.now (license_part c.args.self.now) c.args.reader.now (λ d. d) (rw (differs c.args.opened.now.element.now.local_name (codes "id") (λ e. c.in_default.not-id (c.as_str.ensures ∙ e)), differs c.args.opened.now.element.now.local_name (codes "name") (λ e. c.in_default.not-name (c.as_str.ensures ∙ e)), differs c.args.opened.now.element.now.local_name (codes "text") (λ e. c.in_default.not-text (c.as_str.ensures ∙ e)), differs c.args.opened.now.element.now.local_name (codes "url") (λ e. c.in_default.not-url (c.as_str.ensures ∙ e)), differs c.args.opened.now.element.now.local_name (codes "properties") (λ e. c.in_default.not-properties (c.as_str.ensures ∙ e))) refl)
