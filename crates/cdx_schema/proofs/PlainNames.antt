-- Each record but a component, a service and a bill is read and written by its rows alone.
use Rattle.std.specs.Prelude.{◌≡◌, refl, true}
use Rattle.cdx_models.specs.Trees.{Name, component, service, bill}
use Rattle.cdx_schema.specs.Plain.{IsPlain, is_plain}

pub plain_name : (n : Name) → is_plain n ≡ true → IsPlain n
plain_name component e = cc
plain_name service e = cc
plain_name bill e = cc
plain_name _ e = record { no_heading = refl; in_order = λ xs. refl; shallow = λ d. refl; same_depth = λ d. refl }
