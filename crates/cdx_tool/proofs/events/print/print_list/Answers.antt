use Rattle.std.proofs.Common.{rules, arith, ◌≡◌, ◌∙◌, ◌∷◌, [], ◌++◌, map, ap, sym, string_bytes}
use Rattle.std.proofs.lemmas.List.{drop_all}
use Rattle.serde_json.specs.Data.{array}
use Rattle.serde_json.specs.View.{items_of}
use Rattle.serde_json.specs.Written.{compact_text, items_text}
use Rattle.cdx_request.specs.EventValues.{attribute_value}
use Rattle.cdx_tool.proofs.events.print.print_list.Goals as goal

pub returns : goal.returns
returns c =
    let all = c.args.attributes.now in
    let held = string_bytes c.loop-attribute.out in
    let none = drop_all c.loop-attribute.attribute-index all (omega (arith, c.loop-attribute-test.false)) in
    let so_far : held ++ 93 ∷ [] ≡ string_bytes c.args.out.now ++ compact_text (array (items_of (map attribute_value all))) = sym (ap (λ xs. held ++ items_text c.loop-attribute.is_later (items_of (map attribute_value xs))) none) ∙ c.loop-attribute.invariant in
    search rules
