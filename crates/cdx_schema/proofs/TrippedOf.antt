-- What a trip makes of a tree of a kind is of that kind, and fits what the tree fits. Q is what is asked of a text.
use Rattle.std.specs.Prelude.{◌≡◌, refl, ℕ, List, [], ◌∷◌, Bool, true, false, not, ◌&&◌, if◌then◌else◌, ◌⊎◌}
use Rattle.std.proofs.Common.{true≢false, inl, inr}
use mathlib.Core.Path.{ap, sym, ◌∙◌, subst}
use Rattle.cdx_models.specs.declared.bom.SpecVersion.{SpecVersion}
use Rattle.cdx_models.specs.declared.bom.SpecVersion.TheVariants.{V1_3, V1_4, V1_5}
use Rattle.cdx_models.specs.Trees.{Name, contact, service_data, Tree, absent, items, fields, Trees, none, more, is_absent}
use Rattle.cdx_schema.specs.Kinds.{Kind, a_text, a_record, a_license_choice, a_license_identifier, a_tools, an_entry, a_signature, a_bill, Need, optional, Spelled, filled_child, children, Row}
use Rattle.cdx_schema.specs.Table.{rows}
use Rattle.cdx_schema.specs.Held.{held_kind}
use Rattle.cdx_models.specs.Entries.{is_flow}
use Rattle.cdx_schema.specs.Depth.{Depth, inside, name_too_deep}
use Rattle.cdx_schema.specs.Keeping.{has_versions, items_have_versions, rows_have_versions, is_there, is_shallow, are_shallow}
use Rattle.cdx_schema.specs.Membership.{IsOfAll, AreOfAll, AreFieldsAll, HasShape, HaveShape, FieldsHaveShape, IsListKind, IsRecordOf, may_lack}
use Rattle.cdx_schema.specs.Trips.{bare, items_bare, rows_bare, is_hollow, is_passed_over, field_after, none_is_absent}
use Rattle.cdx_schema.proofs.JsonBack.{and_true}
use Rattle.cdx_schema.proofs.XmlLaw.{tripped, items_tripped, rows_tripped, list_after}
use Rattle.cdx_schema.proofs.Sound.{both, free_kind, free_need, free_rows, sound_xml, all_sound, sound, sound_parts, whole_kind}
use Rattle.cdx_schema.proofs.KeptOf.{IsFieldAll, IsField, there_alike, dropped_versions, and_alike}
use Rattle.cdx_schema.proofs.Basics.{more_is}

-- ---- a trip takes as much in each version

list_first : (k : Kind) (us : Trees) → list_after k V1_3 us ≡ items us
list_first a_tools us = refl
list_first _ us = refl

if_more : (b : Bool) {t u : Tree} {ts us : Trees} → t ≡ u → ts ≡ us → (if b then ts else more t ts) ≡ (if b then us else more u us)
if_more b p q = rw (p, q) refl

mutual
  unfolding tripped bare

  -- In 1.3 a trip makes of a tree exactly what it leaves.
  pub bare_is : (t : Tree) (k : Kind) → tripped V1_3 t k ≡ bare t
  bare_is (items ts) k = list_first k (items_tripped V1_3 ts (held_kind k)) ∙ ap items (items_bare_is ts (held_kind k))
  bare_is (fields n ts) k = ap (fields n) (rows_bare_is ts (rows n))
  bare_is _ k = refl

  items_bare_is : (ts : Trees) (k : Kind) → items_tripped V1_3 ts k ≡ items_bare ts
  items_bare_is none k = refl
  items_bare_is (more t ts) k = if_more (is_passed_over t) (bare_is t k) (items_bare_is ts k)

  rows_bare_is : (ts : Trees) (rs : List Row) → rows_tripped V1_3 ts rs ≡ rows_bare ts rs
  rows_bare_is none rs = refl
  rows_bare_is (more t ts) [] = refl
  rows_bare_is (more t ts) (r ∷ rs) = more_is (ap (field_after r t) (bare_is t r.kind)) (rows_bare_is ts rs)

-- ---- kinds

list_of_trip : (Q : List ℕ → Type 0) (k : Kind) (w : SpecVersion) (us : Trees) → IsListKind k → AreOfAll Q us (held_kind k) → IsOfAll Q (list_after k w us) k
unfolding rows
list_of_trip Q a_tools V1_5 none l h = (refl, (inl (refl, refl), (inl (refl, refl), tt)))
list_of_trip Q a_tools V1_5 (more u us) l h = (l, h)
list_of_trip Q a_tools V1_3 us l h = (l, h)
list_of_trip Q a_tools V1_4 us l h = (l, h)
list_of_trip Q _ w us l h = (l, h)

list_there : (k : Kind) (w : SpecVersion) (us : Trees) → is_absent (list_after k w us) ≡ false
list_there a_tools V1_5 none = refl
list_there a_tools V1_5 (more u us) = refl
list_there a_tools V1_3 us = refl
list_there a_tools V1_4 us = refl
list_there _ w us = refl

pub trip_there : (w : SpecVersion) (t : Tree) (k : Kind) → is_absent (tripped w t k) ≡ is_absent t
unfolding tripped
trip_there w (items ts) k = list_there k w (items_tripped w ts (held_kind k))
trip_there w _ k = refl

flow_trip : (w : SpecVersion) (ts : Trees) → is_flow service_data (rows_tripped w ts (rows service_data)) ≡ is_flow service_data ts
unfolding tripped rows
flow_trip w none = refl
flow_trip w (more a none) = ap (λ x. not (x && true)) (trip_there w a a_text)
flow_trip w (more a (more b ts)) = rw (trip_there w a a_text, trip_there w b a_text) refl

record_of_trip : (w : SpecVersion) (k : Kind) (n : Name) (ts : Trees) → IsRecordOf k n ts → IsRecordOf k n (rows_tripped w ts (rows n))
record_of_trip w (a_record m) n ts is = is
record_of_trip w a_license_choice n ts is = is
record_of_trip w a_license_identifier n ts is = is
record_of_trip w a_tools n ts is = is
record_of_trip w an_entry n ts (inl is) = inl is
record_of_trip w an_entry n ts (inr is) = inr (is.0, subst (λ (m : Name). is_flow m ts ≡ true → is_flow m (rows_tripped w ts (rows m)) ≡ true) (sym is.0) (λ f. flow_trip w ts ∙ f) is.1)
record_of_trip w a_signature n ts is = is
record_of_trip w a_bill n ts is = is
record_of_trip w _ n ts is = absurd (true≢false is)

filled_lacks : (n : Need) (k : Kind) → sound_xml (filled_child []) n k ≡ true → may_lack n ≡ true
filled_lacks optional k s = refl
filled_lacks _ k s = absurd (true≢false (sym s))

none_of : (Q : List ℕ → Type 0) (n : Need) (u : Tree) (k : Kind) → ((u ≡ absent) × (may_lack n ≡ true)) ⊎ IsOfAll Q u k → ((none_is_absent n u ≡ absent) × (may_lack n ≡ true)) ⊎ IsOfAll Q (none_is_absent n u) k
none_of Q optional (items none) k h = inl (refl, refl)
none_of Q optional (items (more u us)) k h = h
none_of Q optional _ k h = h
none_of Q _ u k h = h

field_of_trip : (Q : List ℕ → Type 0) (r : Row) (t u : Tree) → sound_xml r.xml r.need r.kind ≡ true → IsFieldAll Q u r → IsFieldAll Q (field_after r t u) r
field_of_trip Q r t u s h = by r.xml s
  where
    by : (x : Spelled) → sound_xml x r.need r.kind ≡ true → IsFieldAll Q (field_after (record r { xml = x }) t u) r
    by (filled_child q) e = at (is_hollow t)
      where
        at : (b : Bool) → IsFieldAll Q (if b then absent else u) r
        at true = inl (refl, filled_lacks r.need r.kind e)
        at false = h
    by (children q) e = none_of Q r.need u r.kind h
    by _ e = h

item_of_trip : (Q : List ℕ → Type 0) (b : Bool) (t : Tree) (ts : Trees) (k : Kind) → IsOfAll Q t k → AreOfAll Q ts k → AreOfAll Q (if b then ts else more t ts) k
item_of_trip Q true t ts k h g = g
item_of_trip Q false t ts k h g = (h, g)

absent_trip : (Q : List ℕ → Type 0) (w : SpecVersion) (t : Tree) (r : Row) → IsFieldAll Q t r → (IsOfAll Q t r.kind → IsOfAll Q (tripped w t r.kind) r.kind) → IsFieldAll Q (tripped w t r.kind) r
unfolding tripped
absent_trip Q w t r (inl h) f = inl (ap (λ x. tripped w x r.kind) h.0, h.1)
absent_trip Q w t r (inr h) f = inr (f h)

mutual
  unfolding tripped

  pub tripped_of : (Q : List ℕ → Type 0) (w : SpecVersion) (t : Tree) (k : Kind) → IsOfAll Q t k → IsOfAll Q (tripped w t k) k
  tripped_of Q w (items ts) k h = list_of_trip Q k w (items_tripped w ts (held_kind k)) h.0 (items_tripped_of Q w ts (held_kind k) h.1)
  tripped_of Q w (fields n ts) k h = (record_of_trip w k n ts h.0, rows_tripped_of Q w ts (rows n) (sound n) h.1)
  tripped_of Q w _ k h = h

  items_tripped_of : (Q : List ℕ → Type 0) (w : SpecVersion) (ts : Trees) (k : Kind) → AreOfAll Q ts k → AreOfAll Q (items_tripped w ts k) k
  items_tripped_of Q w none k h = tt
  items_tripped_of Q w (more t ts) k h = item_of_trip Q (is_passed_over t) (tripped w t k) (items_tripped w ts k) k (tripped_of Q w t k h.0) (items_tripped_of Q w ts k h.1)

  rows_tripped_of : (Q : List ℕ → Type 0) (w : SpecVersion) (ts : Trees) (rs : List Row) → all_sound rs ≡ true → AreFieldsAll Q ts rs → AreFieldsAll Q (rows_tripped w ts rs) rs
  rows_tripped_of Q w none [] s h = tt
  rows_tripped_of Q w none (r ∷ rs) s h = h
  rows_tripped_of Q w (more t ts) [] s h = absurd (true≢false h)
  rows_tripped_of Q w (more t ts) (r ∷ rs) s h = (
    field_of_trip Q r t (tripped w t r.kind) (sound_parts r rs s).1 (absent_trip Q w t r h.0 (tripped_of Q w t r.kind)),
    rows_tripped_of Q w ts rs (sound_parts r rs s).2 h.1,
  )

pub bare_of : (Q : List ℕ → Type 0) (t : Tree) (k : Kind) → IsOfAll Q t k → IsOfAll Q (bare t) k
bare_of Q t k h = subst (λ (x : Tree). IsOfAll Q x k) (bare_is t k) (tripped_of Q V1_3 t k h)

-- ---- versions

list_versions : (k : Kind) (w : SpecVersion) (us : Trees) → has_versions (list_after k w us) k ≡ items_have_versions us (held_kind k)
unfolding has_versions
list_versions a_tools V1_5 none = refl
list_versions a_tools V1_5 (more u us) = refl
list_versions a_tools V1_3 us = refl
list_versions a_tools V1_4 us = refl
list_versions _ w us = refl

contact_versions : (k : Kind) (us : Trees) → FieldsHaveShape us (rows contact) → has_versions (fields contact us) k ≡ true
unfolding has_versions
contact_versions a_tools us h = refl
contact_versions _ us h = free_rows us (rows contact) h (unfold rows in refl)

passed_versions : (t : Tree) (k : Kind) → HasShape t k → is_passed_over t ≡ true → has_versions t k ≡ true
passed_versions (fields contact us) k h e = contact_versions k us h.1
passed_versions _ k h e = absurd (true≢false (sym e))

trip_versions_item : (b : Bool) (t u : Tree) (ts us : Trees) (k : Kind) → (b ≡ true → has_versions t k ≡ true) → has_versions u k ≡ has_versions t k → items_have_versions us k ≡ items_have_versions ts k
    → items_have_versions (if b then us else more u us) k ≡ (has_versions t k && items_have_versions ts k)
unfolding has_versions
trip_versions_item true t u ts us k p q h = h ∙ sym (ap (λ x. x && items_have_versions ts k) (p refl))
trip_versions_item false t u ts us k p q h = and_alike q h

filled_free : (n : Need) (k : Kind) → sound_xml (filled_child []) n k ≡ true → (free_need n ≡ true) × (free_kind k ≡ true)
filled_free optional k s = (refl, (and_true (free_kind k) (whole_kind k) s).0)
filled_free _ k s = absurd (true≢false (sym s))

none_there : (n : Need) (u : Tree) → is_there n (none_is_absent n u) ≡ is_there n u
none_there optional u = refl
none_there _ u = refl

none_versions : (n : Need) (u : Tree) (k : Kind) → has_versions (none_is_absent n u) k ≡ has_versions u k
unfolding has_versions
none_versions optional (items none) k = refl
none_versions optional (items (more u us)) k = refl
none_versions optional _ k = refl
none_versions _ u k = refl

field_versions : (r : Row) (t u : Tree) → sound_xml r.xml r.need r.kind ≡ true → IsField t r → is_absent u ≡ is_absent t → has_versions u r.kind ≡ has_versions t r.kind
    → (is_there r.need (field_after r t u) && has_versions (field_after r t u) r.kind) ≡ (is_there r.need t && has_versions t r.kind)
field_versions r t u s h a v = by r.xml s
  where
    same : (is_there r.need u && has_versions u r.kind) ≡ (is_there r.need t && has_versions t r.kind)
    same = and_alike (there_alike r.need u t a) v

    by : (x : Spelled) → sound_xml x r.need r.kind ≡ true → (is_there r.need (field_after (record r { xml = x }) t u) && has_versions (field_after (record r { xml = x }) t u) r.kind) ≡ (is_there r.need t && has_versions t r.kind)
    by (filled_child q) e = at (is_hollow t)
      where
        at : (b : Bool) → (is_there r.need (if b then absent else u) && has_versions (if b then absent else u) r.kind) ≡ (is_there r.need t && has_versions t r.kind)
        at true = dropped_versions t r (filled_free r.need r.kind e).0 (filled_free r.need r.kind e).1 h
        at false = same
    by (children q) e = and_alike (none_there r.need u) (none_versions r.need u r.kind) ∙ same
    by _ e = same

absent_versions : (w : SpecVersion) (t : Tree) (r : Row) → IsField t r → (HasShape t r.kind → has_versions (tripped w t r.kind) r.kind ≡ has_versions t r.kind) → has_versions (tripped w t r.kind) r.kind ≡ has_versions t r.kind
unfolding tripped
absent_versions w t r (inl h) f = ap (λ x. has_versions (tripped w x r.kind) r.kind) h.0 ∙ sym (ap (λ x. has_versions x r.kind) h.0)
absent_versions w t r (inr h) f = f h

fields_alike : (k : Kind) (n : Name) (ts us : Trees) → rows_have_versions us (rows n) ≡ rows_have_versions ts (rows n) → has_versions (fields n us) k ≡ has_versions (fields n ts) k
unfolding has_versions
fields_alike a_tools n ts us h = refl
fields_alike _ n ts us h = h

mutual
  unfolding tripped has_versions

  pub tripped_versions : (w : SpecVersion) (t : Tree) (k : Kind) → HasShape t k → has_versions (tripped w t k) k ≡ has_versions t k
  tripped_versions w (items ts) k h = list_versions k w (items_tripped w ts (held_kind k)) ∙ items_tripped_versions w ts (held_kind k) h.1
  tripped_versions w (fields n ts) k h = fields_alike k n ts (rows_tripped w ts (rows n)) (rows_tripped_versions w ts (rows n) (sound n) h.1)
  tripped_versions w _ k h = refl

  items_tripped_versions : (w : SpecVersion) (ts : Trees) (k : Kind) → HaveShape ts k → items_have_versions (items_tripped w ts k) k ≡ items_have_versions ts k
  items_tripped_versions w none k h = refl
  items_tripped_versions w (more t ts) k h = trip_versions_item (is_passed_over t) t (tripped w t k) ts (items_tripped w ts k) k (passed_versions t k h.0) (tripped_versions w t k h.0) (items_tripped_versions w ts k h.1)

  rows_tripped_versions : (w : SpecVersion) (ts : Trees) (rs : List Row) → all_sound rs ≡ true → FieldsHaveShape ts rs → rows_have_versions (rows_tripped w ts rs) rs ≡ rows_have_versions ts rs
  rows_tripped_versions w none rs s h = refl
  rows_tripped_versions w (more t ts) [] s h = refl
  rows_tripped_versions w (more t ts) (r ∷ rs) s h = and_alike
      (field_versions r t (tripped w t r.kind) (sound_parts r rs s).1 h.0 (trip_there w t r.kind) (absent_versions w t r h.0 (tripped_versions w t r.kind)))
      (rows_tripped_versions w ts rs (sound_parts r rs s).2 h.1)

pub bare_versions : (t : Tree) (k : Kind) → HasShape t k → has_versions (bare t) k ≡ has_versions t k
bare_versions t k h = sym (ap (λ x. has_versions x k) (bare_is t k)) ∙ tripped_versions V1_3 t k h

-- ---- depth

list_shallow : (k : Kind) (w : SpecVersion) (us : Trees) (d : Depth) → are_shallow us d ≡ true → is_shallow (list_after k w us) d ≡ true
unfolding is_shallow
list_shallow a_tools V1_5 none d h = refl
list_shallow a_tools V1_5 (more u us) d h = h
list_shallow a_tools V1_3 us d h = h
list_shallow a_tools V1_4 us d h = h
list_shallow _ w us d h = h

item_shallow : (b : Bool) (u : Tree) (us : Trees) (d : Depth) → is_shallow u d ≡ true → are_shallow us d ≡ true → are_shallow (if b then us else more u us) d ≡ true
unfolding is_shallow
item_shallow true u us d p q = q
item_shallow false u us d p q = both (is_shallow u d) (are_shallow us d) p q

none_shallow : (n : Need) (u : Tree) (d : Depth) → is_shallow u d ≡ true → is_shallow (none_is_absent n u) d ≡ true
unfolding is_shallow
none_shallow optional (items none) d h = refl
none_shallow optional (items (more u us)) d h = h
none_shallow optional _ d h = h
none_shallow _ u d h = h

field_shallow : (r : Row) (t u : Tree) (d : Depth) → is_shallow u d ≡ true → is_shallow (field_after r t u) d ≡ true
unfolding is_shallow
field_shallow r t u d h = by r.xml
  where
    by : (x : Spelled) → is_shallow (field_after (record r { xml = x }) t u) d ≡ true
    by (filled_child q) = at (is_hollow t)
      where
        at : (b : Bool) → is_shallow (if b then absent else u) d ≡ true
        at true = refl
        at false = h
    by (children q) = none_shallow r.need u d h
    by _ = h

mutual
  unfolding tripped is_shallow

  pub tripped_shallow : (w : SpecVersion) (t : Tree) (k : Kind) (d : Depth) → is_shallow t d ≡ true → is_shallow (tripped w t k) d ≡ true
  tripped_shallow w (items ts) k d h = list_shallow k w (items_tripped w ts (held_kind k)) d (items_tripped_shallow w ts (held_kind k) d h)
  tripped_shallow w (fields n ts) k d h =
      let p : (not (name_too_deep n d) ≡ true) × (are_shallow ts (inside n d) ≡ true) = and_true (not (name_too_deep n d)) (are_shallow ts (inside n d)) h in
      both (not (name_too_deep n d)) (are_shallow (rows_tripped w ts (rows n)) (inside n d)) p.0 (rows_tripped_shallow w ts (rows n) (inside n d) p.1)
  tripped_shallow w _ k d h = refl

  items_tripped_shallow : (w : SpecVersion) (ts : Trees) (k : Kind) (d : Depth) → are_shallow ts d ≡ true → are_shallow (items_tripped w ts k) d ≡ true
  items_tripped_shallow w none k d h = refl
  items_tripped_shallow w (more t ts) k d h =
      let p : (is_shallow t d ≡ true) × (are_shallow ts d ≡ true) = and_true (is_shallow t d) (are_shallow ts d) h in
      item_shallow (is_passed_over t) (tripped w t k) (items_tripped w ts k) d (tripped_shallow w t k d p.0) (items_tripped_shallow w ts k d p.1)

  rows_tripped_shallow : (w : SpecVersion) (ts : Trees) (rs : List Row) (d : Depth) → are_shallow ts d ≡ true → are_shallow (rows_tripped w ts rs) d ≡ true
  rows_tripped_shallow w none rs d h = refl
  rows_tripped_shallow w (more t ts) [] d h = refl
  rows_tripped_shallow w (more t ts) (r ∷ rs) d h =
      let p : (is_shallow t d ≡ true) × (are_shallow ts d ≡ true) = and_true (is_shallow t d) (are_shallow ts d) h in
      both (is_shallow (field_after r t (tripped w t r.kind)) d) (are_shallow (rows_tripped w ts rs) d) (field_shallow r t (tripped w t r.kind) d (tripped_shallow w t r.kind d p.0)) (rows_tripped_shallow w ts rs d p.1)

pub bare_shallow : (t : Tree) (d : Depth) → is_shallow t d ≡ true → is_shallow (bare t) d ≡ true
bare_shallow t d h = sym (ap (λ x. is_shallow x d) (bare_is t a_bill)) ∙ tripped_shallow V1_3 t a_bill d h
