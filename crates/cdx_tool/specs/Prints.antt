-- Items and events that are printed as JSON piece by piece, each piece after the text before it.
use Rattle.std.specs.Prelude.{◌≡◌, ℕ, List, [], ◌∷◌, ◌++◌, map, codes, Bool, false, Option, Some, None, Result, Ok, Err}
use Rattle.serde_json.specs.Data.{Data, array}
use Rattle.serde_json.specs.View.{items_of}
use Rattle.serde_json.specs.Written.{compact_text, items_text}
use Rattle.cdx_events.specs.declared.name.OwnedName.{OwnedName}
use Rattle.cdx_events.specs.declared.name.OwnedAttribute.{OwnedAttribute}
use Rattle.cdx_schema.specs.Roads.{Doc, Refusal}
use Rattle.cdx_bom.specs.declared.doc.RoadError.{RoadError}
use Rattle.cdx_bom.specs.Docs.{Refuses}
use Rattle.cdx_request.specs.EventValues.{attribute_value}
use Rattle.cdx_request.specs.Replies.{line_of, doc_value, documents_value}
use Rattle.cdx_print.specs.Prints.{then_text}

abbrev pub then_text_if : List ℕ → Option (List ℕ) → List ℕ → List ℕ
then_text_if start None before = before
then_text_if start (Some s) before = then_text start s before

abbrev pub then_name : List ℕ → OwnedName → List ℕ → List ℕ
then_name start n before = then_text_if (codes ",\"uri\":") n.namespace (then_text_if (codes ",\"prefix\":") n.prefix (then_text start n.local_name before))

-- ---- members that others follow

abbrev pub then_default : Option (List ℕ) → List ℕ → List ℕ
then_default None before = before
then_default (Some s) before = then_text (codes "\"default\":") s before ++ codes ","

abbrev pub then_attributes : List OwnedAttribute → List ℕ → List ℕ
then_attributes [] before = before
then_attributes (a ∷ more) before = ((before ++ codes "\"attributes\":") ++ compact_text (array (items_of (map attribute_value (a ∷ more))))) ++ codes ","

-- ---- a list, some of its items at a time

-- The items were printed behind a text, and behind another item where `first` says so. With any items after them, behind
-- one where `later` says so, and with the bracket that follows, it is the text of all of them.
abbrev pub PrintsItems : List Data → List ℕ → Bool → List ℕ → Bool → Type 0
PrintsItems ds old first new later = (more : List Data) → new ++ items_text later (items_of more) ≡ old ++ items_text first (items_of (ds ++ more))

-- ---- the documents of a road

-- After a text these documents were printed, and the bracket behind them; or the error is the refusal.
abbrev pub PrintsRoad : Result (List Doc) Refusal → List ℕ → List ℕ → Result (Unit {0}) RoadError → Type 0
PrintsRoad owed old new (Ok u) = (docs : List Doc) × (owed ≡ Ok docs) × (new ≡ old ++ items_text false (items_of (map doc_value docs)))
PrintsRoad owed old new (Err e) = Refuses owed e

-- The text is the line of these documents, or the error is the refusal.
abbrev pub AnswersLine : Result (List Doc) Refusal → Result (List ℕ) RoadError → Type 0
AnswersLine owed (Ok text) = (docs : List Doc) × (owed ≡ Ok docs) × (text ≡ line_of (documents_value docs))
AnswersLine owed (Err e) = Refuses owed e
