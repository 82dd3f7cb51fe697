-- What the program of the inventory owes to words and bytes.
use Rattle.std.specs.Prelude.{ℕ, List, [], ◌∷◌, map, codes, if◌then◌else◌, Option, Some, None, String, string_bytes, bytes_eq}
use Rattle.std.specs.declared.alloc.Global.{Global}
use Rattle.serde_json.specs.Data.{Data, string, array, object, Members, no_members, member}
use Rattle.serde_json.specs.View.{items_of}
use Rattle.cdx_models.specs.Path.{pointer}
use Rattle.cdx_models.specs.Trees.{Tree}
use Rattle.cdx_request.specs.Refusals.{only, a_text}
use Rattle.cdx_request.specs.Replies.{Reply}
use Rattle.cdx_tool.specs.Owed.{reply_by}
use Rattle.cdx_tool.specs.Asks.{reply_asking}
use Rattle.cdx_inventory.specs.Entries.{Told, inventory}

-- ---- the answer

-- the member `version`, where there is one
abbrev pub if_version : Option (List ℕ) → Members
if_version None = no_members
if_version (Some s) = a_text (codes "version") s no_members

-- an entry: the texts of its licenses, its name, its path as a JSON pointer, and its version where there is one
abbrev pub entry_value : Told → Data
entry_value e = object (
    member (codes "licenses") (array (items_of (map (λ s. string s) e.licenses))) (
    a_text (codes "name") e.name (
    a_text (codes "path") (pointer e.path) (if_version e.version))))

abbrev pub components_answer : List Told → Data
components_answer es = only (codes "components") (array (items_of (map entry_value es)))

-- ---- the commands

-- to list the components under this license, or all where none is named
pub record Command : Type 0 where
  pub license : Option (List ℕ)

abbrev pub to_list : Option (List ℕ) → Command
to_list license = record { license = license }

abbrev pub if_list : String Global → Command → Option Command
if_list word c = if bytes_eq (string_bytes word) (codes "list") then Some c else None

-- the word `list`, or `list` and one word more, which is the license
abbrev pub command_of : List (String Global) → Option Command
command_of [] = None
command_of (word ∷ []) = if_list word (to_list None)
command_of (word ∷ license ∷ []) = if_list word (to_list (Some (string_bytes license)))
command_of (word ∷ license ∷ next ∷ words) = None

-- the answer to a bill: its inventory, or that under the license
abbrev pub answer_to : Command → Tree → Data
answer_to c b = components_answer (inventory b c.license)

-- the reply to a command and the bytes of a question about a bill
abbrev pub reply_to_command : Command → List ℕ → Reply
reply_to_command c bytes = reply_asking (answer_to c) bytes

-- the reply to these words and bytes
abbrev pub reply_for : List (String Global) → List ℕ → Reply
reply_for words bytes = reply_by reply_to_command (command_of words) bytes
