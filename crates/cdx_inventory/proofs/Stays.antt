-- What a version keeps lists the same components, save those of a tools object before 1.5.
use Rattle.std.specs.Prelude.{◌≡◌, refl, ℕ, zero, suc, List, [], ◌∷◌, ◌++◌, map, filter, Bool, true, false, not, ◌&&◌, ◌||◌, if◌then◌else◌, Option, Some, None, codes, ◌⊎◌}
use Rattle.std.proofs.Common.{true≢false, inl, inr}
use Rattle.std.proofs.lemmas.List.{map-append}
use Rattle.std.proofs.lemmas.List.Elements.{filter-append}
use mathlib.Core.Path.{ap, sym, ◌∙◌, subst}
use Rattle.cdx_models.specs.declared.errors.Step.{Step}
use Rattle.cdx_models.specs.declared.bom.SpecVersion.{SpecVersion}
use Rattle.cdx_models.specs.declared.bom.SpecVersion.TheVariants.{V1_3, V1_4, V1_5}
use Rattle.cdx_models.specs.Versions.{knows}
use Rattle.cdx_models.specs.Trees.{Name, component, pedigree, metadata, bill, tools_object, Tree, absent, text, number, boolean, items, fields, Trees, none, more, field}
use Rattle.cdx_schema.specs.Kinds.{Lists, hashes, Kind, a_text, a_version, a_list, a_record, a_tools, a_data, an_entry, a_bill, Row}
use Rattle.cdx_schema.specs.Kinds as kinds
use Rattle.cdx_schema.specs.Held.{held_kind}
use Rattle.cdx_schema.specs.Table.{rows, list}
use Rattle.cdx_schema.specs.Faults.{to_member, to_item}
use Rattle.cdx_schema.specs.Keeping.{kept, items_kept, rows_kept, kept_text, kept_record}
use Rattle.cdx_schema.specs.Membership.{AnyText, HasShape, HaveShape, FieldsHaveShape, IsRecordOf}
use Rattle.cdx_schema.proofs.JsonBack.{and_true}
use Rattle.cdx_schema.proofs.KeptTwice.{stays}
use Rattle.cdx_schema.proofs.KeptOf.{kept_of, items_kept_of}
use Rattle.cdx_schema.proofs.Sound.{free_name}
use Rattle.cdx_schema.proofs.Literals.{reading_on_literals}
use Rattle.cdx_ways.specs.Ways.{At, behind_step, behind_row, is_step, begins, after_step, after_row}
use Rattle.cdx_ways.proofs.Lists.{own_step, step_is}
use Rattle.cdx_inventory.specs.Listing.{itself, listed_in, items_listed, rows_listed, listed, text_itself, text_if_there, Remained, remained, is_outside, the_tools, outside_tools, ListsKept}
use Rattle.cdx_inventory.proofs.Unlisted.{lists_none, unlisted, items_unlisted}
use Rattle.cdx_inventory.proofs.Listed.{bool_cases}

-- ---- what is known of the same

-- As many are listed, at the same paths, with the same names and versions.
abbrev Alike : List (At Tree) → List (At Tree) → Type 0
Alike us vs = map remained us ≡ map remained vs

abbrev pushed : Step → Remained → Remained
pushed s k = record { path = s ∷ k.path; name = k.name; version = k.version }

known_behind : (s : Step) (us : List (At Tree)) → map remained (behind_step s us) ≡ map (pushed s) (map remained us)
known_behind s [] = refl
known_behind s (x ∷ us) = ap (λ ks. pushed s (remained x) ∷ ks) (known_behind s us)

step_alike : (s : Step) (us vs : List (At Tree)) → Alike us vs → Alike (behind_step s us) (behind_step s vs)
step_alike s us vs h = known_behind s us ∙ (ap (map (pushed s)) h ∙ sym (known_behind s vs))

row_alike : (m : kinds.Member) (us vs : List (At Tree)) → Alike us vs → Alike (behind_row m us) (behind_row m vs)
row_alike (kinds.member name) us vs h = step_alike (to_member name) us vs h
row_alike kinds.merged us vs h = h

both_alike : (us us' vs vs' : List (At Tree)) → Alike us vs → Alike us' vs' → Alike (us ++ us') (vs ++ vs')
both_alike us us' vs vs' h g = map-append remained us us' ∙ (ap (λ ks. ks ++ map remained us') h ∙ (ap (λ ks. map remained vs ++ ks) g ∙ sym (map-append remained vs vs')))

-- ---- what is left out

-- what is left without what stands behind a path, if there is one
abbrev left : Option (List Step) → List (At Tree) → List (At Tree)
left None xs = xs
left (Some p) xs = filter (is_outside p) xs

left_none : (o : Option (List Step)) → left o [] ≡ []
left_none None = refl
left_none (Some p) = refl

left_append : (o : Option (List Step)) (us vs : List (At Tree)) → left o (us ++ vs) ≡ left o us ++ left o vs
left_append None us vs = refl
left_append (Some p) us vs = filter-append (is_outside p) us vs

left_all : (xs : List (At Tree)) → left (Some []) xs ≡ []
left_all [] = refl
left_all (x ∷ xs) = left_all xs

-- ---- where a kind's tools stand

abbrev tools_at : Kind → Option (List Step)
tools_at a_bill = Some the_tools
tools_at (a_record bill) = Some the_tools
tools_at (a_record metadata) = Some (to_member (codes "tools") ∷ [])
tools_at a_tools = Some []
tools_at _ = None

abbrev way : SpecVersion → Kind → Option (List Step)
way V1_3 k = tools_at k
way V1_4 k = tools_at k
way V1_5 k = None

abbrev after : Option (List Step) → kinds.Member → Option (List Step)
after None m = None
after (Some p) m = after_row m p

-- The path has a first step, if there is one.
abbrev IsLater : Option (List Step) → Type 0
IsLater None = Unit {0}
IsLater (Some []) = ⊥
IsLater (Some (s ∷ p)) = Unit {0}

-- ---- behind a step and in a row

outside_behind : (s : Step) (p q : List Step) → begins (s ∷ p) (s ∷ q) ≡ begins p q
outside_behind s p q = ap (λ b. b && begins p q) (own_step s)

more_behind : (b : Bool) (s : Step) (x : At Tree) (us vs : List (At Tree)) → us ≡ behind_step s vs → (if b then (s ∷ x.0, x.1) ∷ us else us) ≡ behind_step s (if b then x ∷ vs else vs)
more_behind true s x us vs h = ap (λ zs. (s ∷ x.0, x.1) ∷ zs) h
more_behind false s x us vs h = h

same_step : (s : Step) (p : List Step) (xs : List (At Tree)) → filter (is_outside (s ∷ p)) (behind_step s xs) ≡ behind_step s (filter (is_outside p) xs)
same_step s p [] = refl
same_step s p (x ∷ xs) =
    ap (λ b. if not b then (s ∷ x.0, x.1) ∷ filter (is_outside (s ∷ p)) (behind_step s xs) else filter (is_outside (s ∷ p)) (behind_step s xs)) (outside_behind s p x.0)
    ∙ more_behind (is_outside p x) s x (filter (is_outside (s ∷ p)) (behind_step s xs)) (filter (is_outside p) xs) (same_step s p xs)

other_step : (s s' : Step) (p : List Step) → is_step s' s ≡ false → (xs : List (At Tree)) → filter (is_outside (s' ∷ p)) (behind_step s xs) ≡ behind_step s xs
other_step s s' p e [] = refl
other_step s s' p e (x ∷ xs) =
    ap (λ b. if not (b && begins p x.0) then (s ∷ x.0, x.1) ∷ filter (is_outside (s' ∷ p)) (behind_step s xs) else filter (is_outside (s' ∷ p)) (behind_step s xs)) e
    ∙ ap (λ zs. (s ∷ x.0, x.1) ∷ zs) (other_step s s' p e xs)

turned : (s s' : Step) → is_step s s' ≡ false → is_step s' s ≡ false
turned s s' e = by (is_step s' s) refl
  where
    by : (b : Bool) → is_step s' s ≡ b → b ≡ false
    by true h = absurd (true≢false (sym (own_step s) ∙ (ap (is_step s) (sym (step_is s' s h)) ∙ e)))
    by false h = refl

left_behind : (s s' : Step) (p : List Step) (xs : List (At Tree)) → left (Some (s' ∷ p)) (behind_step s xs) ≡ behind_step s (left (after_step s (s' ∷ p)) xs)
left_behind s s' p xs = by (is_step s s') refl
  where
    by : (b : Bool) → is_step s s' ≡ b → left (Some (s' ∷ p)) (behind_step s xs) ≡ behind_step s (left (if b then Some p else None) xs)
    by true h = subst (λ (z : Step). left (Some (z ∷ p)) (behind_step s xs) ≡ behind_step s (left (Some p) xs)) (step_is s s' h) (same_step s p xs)
    by false h = other_step s s' p (turned s s' h) xs

left_row : (o : Option (List Step)) (m : kinds.Member) (xs : List (At Tree)) → IsLater o → left o (behind_row m xs) ≡ behind_row m (left (after o m) xs)
left_row None m xs h = refl
left_row (Some []) m xs h = elim h [ ]
left_row (Some (s ∷ p)) (kinds.member name) xs h = left_behind (to_member name) s p xs
left_row (Some (s ∷ p)) kinds.merged xs h = refl

-- ---- what the rows have in common

abbrev RowsFit : SpecVersion → Option (List Step) → List Row → Type 0
RowsFit w o [] = Unit {0}
RowsFit w o (r ∷ rs) = (after o r.json ≡ way w r.kind) × RowsFit w o rs

abbrev is_none : Option (List Step) → Bool
is_none None = true
is_none (Some p) = false

none_of : (o : Option (List Step)) → is_none o ≡ true → o ≡ None
none_of None h = refl
none_of (Some p) h = absurd (true≢false (sym h))

way_none : (w : SpecVersion) (k : Kind) → is_none (tools_at k) ≡ true → way w k ≡ None
way_none V1_3 k h = none_of (tools_at k) h
way_none V1_4 k h = none_of (tools_at k) h
way_none V1_5 k h = refl

abbrev no_tools : List Row → Bool
no_tools [] = true
no_tools (r ∷ rs) = is_none (tools_at r.kind) && no_tools rs

none_fit : (w : SpecVersion) (rs : List Row) → no_tools rs ≡ true → RowsFit w None rs
none_fit w [] h = tt
none_fit w (r ∷ rs) h = let p = and_true (is_none (tools_at r.kind)) (no_tools rs) h in (sym (way_none w r.kind p.0), none_fit w rs p.1)

last_fit : (rs : List Row) → RowsFit V1_5 None rs
last_fit [] = tt
last_fit (r ∷ rs) = (refl, last_fit rs)

metadata_fit : RowsFit V1_4 (way V1_4 (a_record metadata)) (rows metadata)
unfolding rows reading_on_literals
metadata_fit = (refl, (refl, (refl, (refl, (refl, (refl, (refl, (refl, tt))))))))

bill_fit : RowsFit V1_4 (way V1_4 (a_record bill)) (rows bill)
unfolding rows reading_on_literals
bill_fit = (refl, (refl, (refl, (refl, (refl, (refl, (refl, (refl, (refl, (refl, (refl, tt)))))))))))

as_before : (o : Option (List Step)) (rs : List Row) → RowsFit V1_4 o rs → RowsFit V1_3 o rs
as_before o [] h = tt
as_before o (r ∷ rs) h = (h.0, as_before o rs h.1)

plain_fit : (w : SpecVersion) (n : Name) → is_none (tools_at (a_record n)) ≡ true → no_tools (rows n) ≡ true → RowsFit w (way w (a_record n)) (rows n)
plain_fit w n h g = subst (λ (o : Option (List Step)). RowsFit w o (rows n)) (sym (way_none w (a_record n) h)) (none_fit w (rows n) g)

rows_fit : (w : SpecVersion) (n : Name) → free_name n ≡ false → RowsFit w (way w (a_record n)) (rows n)
rows_fit w component h = plain_fit w component refl (unfold rows in refl)
rows_fit w pedigree h = plain_fit w pedigree refl (unfold rows in refl)
rows_fit w tools_object h = plain_fit w tools_object refl (unfold rows in refl)
rows_fit V1_3 metadata h = as_before (way V1_4 (a_record metadata)) (rows metadata) metadata_fit
rows_fit V1_4 metadata h = metadata_fit
rows_fit V1_5 metadata h = last_fit (rows metadata)
rows_fit V1_3 bill h = as_before (way V1_4 (a_record bill)) (rows bill) bill_fit
rows_fit V1_4 bill h = bill_fit
rows_fit V1_5 bill h = last_fit (rows bill)
rows_fit w _ h = absurd (true≢false h)

later_way : (w : SpecVersion) (n : Name) → IsLater (way w (a_record n))
later_way V1_3 metadata = tt
later_way V1_3 bill = tt
later_way V1_3 _ = tt
later_way V1_4 metadata = tt
later_way V1_4 bill = tt
later_way V1_4 _ = tt
later_way V1_5 n = tt

-- Rows that a version may not know list nothing.
abbrev later_none : List Row → Bool
later_none [] = true
later_none (r ∷ rs) = (knows r.since V1_3 || lists_none r.kind) && later_none rs

rows_later : (n : Name) → free_name n ≡ false → later_none (rows n) ≡ true
unfolding rows
rows_later component h = refl
rows_later pedigree h = refl
rows_later tools_object h = refl
rows_later metadata h = refl
rows_later bill h = refl
rows_later _ h = absurd (true≢false h)

unknown_none : (v w : SpecVersion) (k : Kind) → (knows v V1_3 || lists_none k) ≡ true → knows v w ≡ false → lists_none k ≡ true
unknown_none V1_3 w k h e = absurd (true≢false e)
unknown_none V1_4 w k h e = h
unknown_none V1_5 w k h e = h

held_plain : (l : Lists) → is_none (tools_at (list l).kind) ≡ true
unfolding list
held_plain hashes = refl
held_plain _ = refl

-- ---- a component's name and version

abbrev is_text : Kind → Bool
is_text a_text = true
is_text _ = false

text_kind : (k : Kind) → is_text k ≡ true → k ≡ a_text
text_kind a_text h = refl
text_kind _ h = absurd (true≢false (sym h))

ever_known : (v w : SpecVersion) → knows v V1_3 ≡ true → knows v w ≡ true
ever_known V1_3 w h = refl
ever_known V1_4 w h = absurd (true≢false (sym h))
ever_known V1_5 w h = absurd (true≢false (sym h))

-- the row at a place is one of a text, which each version knows
abbrev text_row : ℕ → List Row → Bool
text_row i [] = false
text_row zero (r ∷ rs) = knows r.since V1_3 && is_text r.kind
text_row (suc i) (r ∷ rs) = text_row i rs

field_kept : (w l : SpecVersion) (i : ℕ) (ts : Trees) (rs : List Row) → text_row i rs ≡ true → field i (rows_kept w l ts rs) ≡ kept w l (field i ts) a_text
unfolding kept
field_kept w l i none rs h = refl
field_kept w l i (more t ts) [] h = absurd (true≢false (sym h))
field_kept w l zero (more t ts) (r ∷ rs) h =
    let p = and_true (knows r.since V1_3) (is_text r.kind) h in
    ap (λ b. if b then kept w l t r.kind else absent) (ever_known r.since w p.0) ∙ ap (kept w l t) (text_kind r.kind p.1)
field_kept w l (suc i) (more t ts) (r ∷ rs) h = field_kept w l i ts rs h

text_kept : (w l : SpecVersion) (t : Tree) → (text_itself (kept w l t a_text) ≡ text_itself t) × (text_if_there (kept w l t a_text) ≡ text_if_there t)
unfolding kept
text_kept w l absent = (refl, refl)
text_kept w l (text s) = (refl, refl)
text_kept w l (number n) = (refl, refl)
text_kept w l (boolean b) = (refl, refl)
text_kept w l (items ts) = (refl, refl)
text_kept w l (fields n ts) = let e = stays w a_text n (rows_kept w l ts (rows n)) refl in (ap text_itself e, ap text_if_there e)

abbrev called : List ℕ → Option (List ℕ) → List Remained
called n v = record { path = []; name = n; version = v } ∷ []

itself_alike : (w l : SpecVersion) (n : Name) (ts : Trees) → Alike (itself n (rows_kept w l ts (rows n))) (itself n ts)
itself_alike w l component ts =
    ap (λ n. called n (text_if_there (field 8 (rows_kept w l ts (rows component))))) (ap text_itself (field_kept w l 7 ts (rows component) (unfold rows in refl)) ∙ (text_kept w l (field 7 ts)).0)
    ∙ ap (called (text_itself (field 7 ts))) (ap text_if_there (field_kept w l 8 ts (rows component) (unfold rows in refl)) ∙ (text_kept w l (field 8 ts)).1)
itself_alike w l _ ts = refl

left_itself : (w : SpecVersion) (n : Name) (ts : Trees) → left (way w (a_record n)) (itself n ts) ≡ itself n ts
left_itself V1_3 component ts = refl
left_itself V1_4 component ts = refl
left_itself V1_5 component ts = refl
left_itself w n ts = by n
  where
    by : (m : Name) → left (way w (a_record m)) [] ≡ []
    by m = left_none (way w (a_record m))

-- ---- the induction

no_tool_lists : lists_none (held_kind a_tools) ≡ true
unfolding list
no_tool_lists = refl

text_unlisted : (l : SpecVersion) (k : Kind) (s : List ℕ) → listed_in (kept_text l k s) k ≡ []
unfolding listed_in
text_unlisted l a_version s = refl
text_unlisted l _ s = refl

none_alike : (o : Option (List Step)) (us vs : List (At Tree)) → us ≡ [] → vs ≡ [] → Alike us (left o vs)
none_alike o us vs e h = ap (map remained) (e ∙ sym (ap (left o) h ∙ left_none o))

-- a field of a row that the version knows or drops
one_alike : (w l : SpecVersion) (o : Option (List Step)) (t : Tree) (r : Row) (b : Bool) → knows r.since w ≡ b → (knows r.since V1_3 || lists_none r.kind) ≡ true → after o r.json ≡ way w r.kind
    → (HasShape t r.kind → Alike (listed_in (kept w l t r.kind) r.kind) (left (way w r.kind) (listed_in t r.kind)))
    → ((t ≡ absent) ⊎ HasShape t r.kind)
    → Alike (listed_in (if b then kept w l t r.kind else absent) r.kind) (left (after o r.json) (listed_in t r.kind))
unfolding listed_in kept
one_alike w l o t r true e late fit f (inl h) = none_alike (after o r.json) (listed_in (kept w l t r.kind) r.kind) (listed_in t r.kind) (ap (λ x. listed_in (kept w l x r.kind) r.kind) h) (ap (λ x. listed_in x r.kind) h)
one_alike w l o t r true e late fit f (inr h) = f h ∙ ap (λ z. map remained (left z (listed_in t r.kind))) (sym fit)
one_alike w l o t r false e late fit f (inl h) = none_alike (after o r.json) [] (listed_in t r.kind) refl (ap (λ x. listed_in x r.kind) h)
one_alike w l o t r false e late fit f (inr h) = none_alike (after o r.json) [] (listed_in t r.kind) refl (unlisted t r.kind h (unknown_none r.since w r.kind late e))

level_alike : (o : Option (List Step)) (n : Name) (us ts : Trees) → Alike (itself n us) (itself n ts) → left o (itself n ts) ≡ itself n ts → Alike (rows_listed us (rows n)) (left o (rows_listed ts (rows n)))
    → Alike (itself n us ++ rows_listed us (rows n)) (left o (itself n ts ++ rows_listed ts (rows n)))
level_alike o n us ts a e h =
    both_alike (itself n us) (rows_listed us (rows n)) (itself n ts) (left o (rows_listed ts (rows n))) a h
    ∙ ap (map remained) (sym (left_append o (itself n ts) (rows_listed ts (rows n)) ∙ ap (λ z. z ++ left o (rows_listed ts (rows n))) e))

-- A record, seen as one of its own name.
record_alike : (w l : SpecVersion) (n : Name) (ts : Trees) → Alike (rows_listed (rows_kept w l ts (rows n)) (rows n)) (left (way w (a_record n)) (rows_listed ts (rows n)))
    → Alike (itself n (rows_kept w l ts (rows n)) ++ rows_listed (rows_kept w l ts (rows n)) (rows n)) (left (way w (a_record n)) (itself n ts ++ rows_listed ts (rows n)))
record_alike w l n ts h = level_alike (way w (a_record n)) n (rows_kept w l ts (rows n)) ts (itself_alike w l n ts) (left_itself w n ts) h

tools_alike : (w l : SpecVersion) (ts : Trees) → Alike (rows_listed (rows_kept w l ts (rows tools_object)) (rows tools_object)) (left (way w (a_record tools_object)) (rows_listed ts (rows tools_object)))
    → Alike (listed_in (kept_record w a_tools tools_object (rows_kept w l ts (rows tools_object))) a_tools) (left (way w a_tools) (listed_in (fields tools_object ts) a_tools))
unfolding listed_in
tools_alike V1_3 l ts h = ap (map remained) (sym (left_all (rows_listed ts (rows tools_object))))
tools_alike V1_4 l ts h = ap (map remained) (sym (left_all (rows_listed ts (rows tools_object))))
tools_alike V1_5 l ts h = h

bill_way : (w : SpecVersion) → way w (a_record bill) ≡ way w a_bill
bill_way V1_3 = refl
bill_way V1_4 = refl
bill_way V1_5 = refl

-- What is listed of a record that holds components, by what is listed in its rows.
fields_alike : (w l : SpecVersion) (k : Kind) (n : Name) (ts : Trees) → IsRecordOf k n ts → lists_none k ≡ false
    → (free_name n ≡ false → Alike (rows_listed (rows_kept w l ts (rows n)) (rows n)) (left (way w (a_record n)) (rows_listed ts (rows n))))
    → Alike (listed_in (kept_record w k n (rows_kept w l ts (rows n))) k) (left (way w k) (listed_in (fields n ts) k))
unfolding listed_in
fields_alike w l (a_record m) n ts is e h =
    ap (λ t. map remained (listed_in t (a_record m))) (stays w (a_record m) n (rows_kept w l ts (rows n)) refl)
    ∙ subst (λ (z : Name). Alike (itself n (rows_kept w l ts (rows n)) ++ rows_listed (rows_kept w l ts (rows n)) (rows n)) (left (way w (a_record z)) (itself n ts ++ rows_listed ts (rows n)))) is
    (record_alike w l n ts (h (ap free_name is ∙ e)))
fields_alike w l a_tools n ts is e h =
    subst (λ (z : Name). (free_name z ≡ false → Alike (rows_listed (rows_kept w l ts (rows z)) (rows z)) (left (way w (a_record z)) (rows_listed ts (rows z))))
    → Alike (listed_in (kept_record w a_tools z (rows_kept w l ts (rows z))) a_tools) (left (way w a_tools) (listed_in (fields z ts) a_tools))) (sym is)
    (λ g. tools_alike w l ts (g refl)) h
fields_alike w l a_bill n ts is e h =
    ap (λ t. map remained (listed_in t a_bill)) (stays w a_bill n (rows_kept w l ts (rows n)) refl)
    ∙ subst (λ (o : Option (List Step)). Alike (itself n (rows_kept w l ts (rows n)) ++ rows_listed (rows_kept w l ts (rows n)) (rows n)) (left o (itself n ts ++ rows_listed ts (rows n))))
    (ap (λ z. way w (a_record z)) is ∙ bill_way w) (record_alike w l n ts (h (ap free_name is)))
fields_alike w l (a_list x) n ts is e h = absurd (true≢false is)
fields_alike w l _ n ts is e h = absurd (true≢false e)

or_shape : {A B C : Type 0} → (A × B) ⊎ C → A ⊎ C
or_shape (inl x) = inl x.0
or_shape (inr y) = inr y

mutual
  unfolding listed_in kept

  kept_alike : (w l : SpecVersion) (t : Tree) (k : Kind) → HasShape t k → Alike (listed_in (kept w l t k) k) (left (way w k) (listed_in t k))
  kept_alike w l absent k h = absurd (true≢false h)
  kept_alike w l (text s) k h = none_alike (way w k) (listed_in (kept_text l k s) k) [] (text_unlisted l k s) refl
  kept_alike w l (number n) k h = none_alike (way w k) [] [] refl refl
  kept_alike w l (boolean b) k h = none_alike (way w k) [] [] refl refl
  kept_alike w l (items ts) (a_list x) h = items_alike w l ts (list x).kind 0 (held_plain x) h.1 ∙ ap (λ o. map remained (left o (items_listed ts (list x).kind 0))) (sym (way_none w (a_list x) refl))
  kept_alike w l (items ts) a_tools h = none_alike (way w a_tools) (items_listed (items_kept w l ts (held_kind a_tools)) (held_kind a_tools) 0) (items_listed ts (held_kind a_tools) 0)
      (items_unlisted (items_kept w l ts (held_kind a_tools)) (held_kind a_tools) 0 (items_kept_of AnyText w l ts (held_kind a_tools) h.1) no_tool_lists) (items_unlisted ts (held_kind a_tools) 0 h.1 no_tool_lists)
  kept_alike w l (items ts) a_data h = none_alike (way w a_data) (items_listed (items_kept w l ts an_entry) an_entry 0) (items_listed ts an_entry 0)
      (items_unlisted (items_kept w l ts an_entry) an_entry 0 (items_kept_of AnyText w l ts an_entry h.1) refl) (items_unlisted ts an_entry 0 h.1 refl)
  kept_alike w l (items ts) k h = absurd (true≢false h.0)
  kept_alike w l (fields n ts) k h = elim (bool_cases (lists_none k)) [
    | inl e ↦ none_alike (way w k) (listed_in (kept_record w k n (rows_kept w l ts (rows n))) k) (listed_in (fields n ts) k) (unlisted (kept_record w k n (rows_kept w l ts (rows n))) k (kept_of AnyText w l (fields n ts) k h) e) (unlisted (fields n ts) k h e)
    | inr e ↦ fields_alike w l k n ts h.0 e (λ f. rows_alike w l (way w (a_record n)) ts (rows n) h.1 (rows_later n f) (rows_fit w n f) (later_way w n))
  ]

  items_alike : (w l : SpecVersion) (ts : Trees) (k : Kind) (i : ℕ) → is_none (tools_at k) ≡ true → HaveShape ts k → Alike (items_listed (items_kept w l ts k) k i) (items_listed ts k i)
  items_alike w l none k i e h = refl
  items_alike w l (more t ts) k i e h =
      both_alike (behind_step (to_item i) (listed_in (kept w l t k) k)) (items_listed (items_kept w l ts k) k (suc i)) (behind_step (to_item i) (listed_in t k)) (items_listed ts k (suc i))
      (step_alike (to_item i) (listed_in (kept w l t k) k) (listed_in t k) (kept_alike w l t k h.0 ∙ ap (λ o. map remained (left o (listed_in t k))) (way_none w k e)))
      (items_alike w l ts k (suc i) e h.1)

  rows_alike : (w l : SpecVersion) (o : Option (List Step)) (ts : Trees) (rs : List Row) → FieldsHaveShape ts rs → later_none rs ≡ true → RowsFit w o rs → IsLater o
      → Alike (rows_listed (rows_kept w l ts rs) rs) (left o (rows_listed ts rs))
  rows_alike w l o none rs h late fit from = none_alike o [] [] refl refl
  rows_alike w l o (more t ts) [] h late fit from = none_alike o [] [] refl refl
  rows_alike w l o (more t ts) (r ∷ rs) h late fit from =
      let p = and_true (knows r.since V1_3 || lists_none r.kind) (later_none rs) late in
      both_alike (behind_row r.json (listed_in (if knows r.since w then kept w l t r.kind else absent) r.kind)) (rows_listed (rows_kept w l ts rs) rs)
      (behind_row r.json (left (after o r.json) (listed_in t r.kind))) (left o (rows_listed ts rs))
      (row_alike r.json (listed_in (if knows r.since w then kept w l t r.kind else absent) r.kind) (left (after o r.json) (listed_in t r.kind))
      (one_alike w l o t r (knows r.since w) refl p.0 fit.0 (kept_alike w l t r.kind) (or_shape h.0)))
      (rows_alike w l o ts rs h.1 p.1 fit.1 from)
      ∙ ap (map remained) (sym (left_append o (behind_row r.json (listed_in t r.kind)) (rows_listed ts rs) ∙ ap (λ z. z ++ left o (rows_listed ts rs)) (left_row o r.json (listed_in t r.kind) from)))

outside_is : (w : SpecVersion) (xs : List (At Tree)) → left (way w a_bill) xs ≡ outside_tools w xs
outside_is V1_3 xs = refl
outside_is V1_4 xs = refl
outside_is V1_5 xs = refl

pub lists_kept : ListsKept
lists_kept b w h = kept_alike w w b a_bill h ∙ ap (map remained) (outside_is w (listed b))
