-- Items that are printed behind the pieces of a long text.
use Rattle.std.proofs.Common.{◌∙◌, ℕ, List, ◌++◌, Bool, sym, ap, append_assoc}
use Rattle.serde_json.specs.Data.{Data}
use Rattle.serde_json.specs.View.{items_of}
use Rattle.serde_json.specs.Written.{items_text}
use Rattle.cdx_tool.specs.Prints.{PrintsItems}

pub items_behind : (pieces : List ℕ) (ds : List Data) (old : List ℕ) (first : Bool) (new : List ℕ) (later : Bool) → PrintsItems ds old first new later → PrintsItems ds (pieces ++ old) first (pieces ++ new) later
items_behind pieces ds old first new later h more =
    append_assoc pieces new (items_text later (items_of more))
    ∙ ap (λ s. pieces ++ s) (h more)
    ∙ sym (append_assoc pieces old (items_text first (items_of (ds ++ more))))
