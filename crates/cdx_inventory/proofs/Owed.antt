-- What the program of the inventory owes.
use Rattle.std.proofs.Common.{◌≡◌, ℕ, ◌≤◌, List, [], ◌∷◌, length, map, Bool, false, ltb, Option, Some, None, IsSome, option_map, option_copied, Bor, Result, Ok, IfOk, ◌⊎◌, inl, inr, refl, ap, subst, ◌∙◌}
use Rattle.std.specs.Io.KnownBytes.{Appends, IsAtEnd}
use Rattle.std.proofs.lemmas.Bool.{le-ltb}
use Rattle.serde_json.specs.Data.{Data, string}
use Rattle.serde_json.specs.View.{items_of}
use Rattle.serde_json.specs.Written.{has_float, items_have_float, members_have_float}
use Rattle.cdx_models.specs.Trees.{Tree}
use Rattle.cdx_request.specs.Requests.{document_in_json}
use Rattle.cdx_request.specs.Replies.{Reply, line_of, limit}
use Rattle.cdx_tool.specs.declared.answer.Answer.{Answer}
use Rattle.cdx_tool.specs.Shows.{reply_of}
use Rattle.cdx_tool.specs.Owed.{reply_by, IsSettled}
use Rattle.cdx_tool.specs.Run.{Tells, Ends}
use Rattle.cdx_tool.specs.Asks.{bill_in, AsksFor, reply_if_read, reply_asking}
use Rattle.cdx_tool.proofs.Statuses.{bill_settled, answer_settled, bill_served, short_served, whole_reply}
use Rattle.std.specs.declared.alloc.AllocError.{AllocError}
use Rattle.cdx_inventory.specs.declared.entry.Entry.{Entry}
use Rattle.cdx_inventory.specs.Entries.{Told, told, all_told}
use Rattle.cdx_inventory.specs.Stock.{Command, if_version, entry_value, components_answer, answer_to, reply_to_command}
use Rattle.cdx_schema.proofs.Basics.{neither}

-- ---- the answer

-- the values of the entries are those of what they tell
pub values_are : (es : List Entry) → map (λ e. entry_value (told e)) es ≡ map entry_value (all_told es)
values_are [] = refl
values_are (e ∷ es) = ap (λ ds. entry_value (told e) ∷ ds) (values_are es)

-- Texts and their like hold no float, so no answer does.
texts_clear : (ss : List (List ℕ)) → items_have_float (items_of (map (λ s. string s) ss)) ≡ false
texts_clear [] = refl
texts_clear (s ∷ ss) = texts_clear ss

version_clear : (o : Option (List ℕ)) → members_have_float (if_version o) ≡ false
version_clear None = refl
version_clear (Some s) = refl

entries_clear : (es : List Told) → items_have_float (items_of (map entry_value es)) ≡ false
entries_clear [] = refl
entries_clear (e ∷ es) = neither (has_float (entry_value e)) _ (neither _ _ (texts_clear e.licenses) (version_clear e.version)) (entries_clear es)

pub components_clear : (es : List Told) → has_float (components_answer es) ≡ false
components_clear es = neither _ false (entries_clear es) refl

-- ---- the reply to a question

value_settled : (f : Tree → Data) (o : Option Data) → IsSettled (reply_if_read f o).status
value_settled f None = inr (inr refl)
value_settled f (Some d) = bill_settled f (bill_in d)

pub settled : (f : Tree → Data) (bytes : List ℕ) (r : Result Answer AllocError) → IfOk r (λ a. reply_of a ≡ reply_asking f bytes) → IfOk r (λ a. IsSettled a.status)
settled f bytes r is = answer_settled r (reply_asking f bytes) is (value_settled f (document_in_json bytes))

of_value : (f : Tree → Data) (o : Option Data) → (reply_if_read f o).status ≡ 0 → (d : Data) × (b : Tree) × (o ≡ Some d) × (bill_in d ≡ Ok b) × ((reply_if_read f o).text ≡ line_of (f b))
of_value f None h = cc
of_value f (Some d) h = let p = bill_served f (bill_in d) h in (d, p.0, refl, p.1, p.2)

asked : (f : Tree → Data) (bytes : List ℕ) → (reply_asking f bytes).status ≡ 0 → (b : Tree) × AsksFor bytes b × ((reply_asking f bytes).text ≡ line_of (f b))
asked f bytes h = let p = of_value f (document_in_json bytes) h in (p.1, (p.0, p.2, p.3), p.4)

answered : (f : Tree → Data) (bytes : List ℕ) (b : Tree) → AsksFor bytes b → (reply_asking f bytes).status ≡ 0
answered f bytes b asks = rw (asks.1, asks.2) refl

-- ---- the reply to words and bytes

-- the program's own command stands for one of the words
stands : {C : Type 0} (f : C → Command) (o : Option C) (bytes : List ℕ) → reply_by (λ c bs. reply_to_command (f c) bs) o bytes ≡ reply_by reply_to_command (option_map f o) bytes
stands f None bytes = refl
stands f (Some c) bytes = refl

-- what is owed to the command that was read from the words is what is owed to these
owed_to : {C : Type 0} (f : C → Command) (given read : Option C) (said : Option Command) (bytes : List ℕ) → given ≡ read → option_map f read ≡ said → reply_by (λ c bs. reply_to_command (f c) bs) given bytes ≡ reply_by reply_to_command said bytes
owed_to f given read said bytes is stands_for = ap (λ o. reply_by (λ c bs. reply_to_command (f c) bs) o bytes) is ∙ (stands f read bytes ∙ ap (λ o. reply_by reply_to_command o bytes) stands_for)

pub table : {C : Type 0} (f : C → Command) (given read : Option C) (said : Option Command) (o before now : Option (List ℕ)) (flushed : Option ℕ) (status : ℕ) → given ≡ read → option_map f read ≡ said
    → (bytes : List ℕ) × Tells o bytes × Ends (reply_by (λ c bs. reply_to_command (f c) bs) given bytes) status before now flushed
    → (bytes : List ℕ) × Tells o bytes × Ends (reply_by reply_to_command said bytes) status before now flushed
table f given read said o before now flushed status is stands_for t = (t.0, t.1, subst (λ (r : Reply). Ends r status before now flushed) (owed_to f given read said t.0 is stands_for) t.2)

pub status_is : {C : Type 0} (f : C → Command) (given read : Option C) (said : Option Command) (bytes : List ℕ) (status : ℕ) → given ≡ read → option_map f read ≡ said
    → (status ≡ (reply_by (λ c bs. reply_to_command (f c) bs) given bytes).status) ⊎ (status ≡ 5) → (status ≡ (reply_by reply_to_command said bytes).status) ⊎ (status ≡ 5)
status_is f given read said bytes status is stands_for (inl own) = inl (own ∙ ap (λ (r : Reply). r.status) (owed_to f given read said bytes is stands_for))
status_is f given read said bytes status is stands_for (inr five) = inr five

none_asked : {C : Type 0} (f : C → Command) (read : Option C) (said : Option Command) (c : Command) → None ≡ read → option_map f read ≡ said → said ≡ Some c → ⊥
none_asked f None said c is stands_for asked = cc
none_asked f (Some x) said c is stands_for asked = cc

-- a command was handed on
pub is_there : {C : Type 0} (f : C → Command) (given : Option (Bor C)) (read : Option C) (said : Option Command) (c : Command) → option_copied given ≡ read → option_map f read ≡ said → said ≡ Some c → IsSome given
is_there f None read said c is stands_for asked = absurd (none_asked f read said c is stands_for asked)
is_there f (Some x) read said c is stands_for asked = refl

-- a reply of status 0 that went out is the line of a bill's inventory
pub served : (o left before now : Option (List ℕ)) (flushed : Option ℕ) (said : Option Command) (c : Command) (bytes : List ℕ) (status : ℕ) → Tells o bytes → Ends (reply_by reply_to_command said bytes) status before now flushed → said ≡ Some c → status ≡ 0 → IsAtEnd left
    → (bytes : List ℕ) × (b : Tree) × Tells o bytes × IsAtEnd left × AsksFor bytes b × Appends before now (line_of (answer_to c b))
served o left before now flushed said c bytes status told ends is zero_is end =
    let w = whole_reply (reply_by reply_to_command (Some c) bytes) status before now flushed (subst (λ (o : Option Command). Ends (reply_by reply_to_command o bytes) status before now flushed) is ends) zero_is in
    let own = short_served (reply_to_command c bytes) (ltb limit (length bytes)) w.0 in
    let a = asked (answer_to c) bytes (subst (λ (r : Reply). r.status ≡ 0) own w.0) in
    (bytes, a.0, told, end, a.1, subst (Appends before now) (ap (λ (r : Reply). r.text) own ∙ a.2) w.1)

-- a question about a bill is owed status 0
pub valid : (said : Option Command) (c : Command) (bytes : List ℕ) (b : Tree) (status : ℕ) → said ≡ Some c → length bytes ≤ limit → AsksFor bytes b → (status ≡ (reply_by reply_to_command said bytes).status) ⊎ (status ≡ 5) → (status ≡ 0) ⊎ (status ≡ 5)
valid said c bytes b status is le asks (inl own) = inl (own ∙ rw (is, le-ltb limit (length bytes) le) (answered (answer_to c) bytes b asks))
valid said c bytes b status is le asks (inr five) = inr five
