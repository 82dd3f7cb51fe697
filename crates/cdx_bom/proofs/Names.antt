-- Trees without records of certain names: what then holds of depths, versions and empty tool lists.
use Rattle.std.proofs.Common.{◌≡◌, Bool, true, false, not, ◌&&◌, List, [], ◌∷◌, refl, ap, ◌∙◌}
use Rattle.std.proofs.lemmas.Bool.{false≢true}
use Rattle.cdx_models.specs.Trees.{Name, component, service, metadata, bill, Tree, absent, text, number, boolean, items, fields, Trees, none, more, ◌⧺◌}
use Rattle.cdx_schema.specs.Kinds.{Lists, hashes, Kind, a_list, a_tools, Need, optional, required, required_first, else_empty, Row}
use Rattle.cdx_schema.specs.Table.{rows, list}
use Rattle.cdx_schema.specs.Held.{held_kind}
use Rattle.cdx_schema.specs.Depth.{Depth, inside, name_too_deep}
use Rattle.cdx_schema.specs.Keeping.{has_versions, items_have_versions, rows_have_versions, is_there, is_shallow, are_shallow}
use Rattle.cdx_schema.specs.Trips.{settled, items_settled, rows_settled, list_settled}
use Rattle.cdx_schema.proofs.JsonBack.{and_true, not_true}
use Rattle.cdx_schema.proofs.Sound.{both}

abbrev pub no_more : Trees → List Row → Bool
no_more none rs = true
no_more (more t ts) [] = false
no_more (more t ts) (r ∷ rs) = no_more ts rs

-- no record in the tree has a name of Q, and none has more fields than rows
unfoldable mutual
  pub lacks : (Name → Bool) → Tree → Bool
  lacks Q absent = true
  lacks Q (text s) = true
  lacks Q (number n) = true
  lacks Q (boolean b) = true
  lacks Q (items ts) = all_lack Q ts
  lacks Q (fields n ts) = not (Q n) && (no_more ts (rows n) && all_lack Q ts)

  pub all_lack : (Name → Bool) → Trees → Bool
  all_lack Q none = true
  all_lack Q (more t ts) = lacks Q t && all_lack Q ts

-- ---- tests of two parts

-- what a record lacks, its fields lack
pub fields_lack : (Q : Name → Bool) (n : Name) (ts : Trees) → lacks Q (fields n ts) ≡ true → (Q n ≡ false) × (no_more ts (rows n) ≡ true) × (all_lack Q ts ≡ true)
unfolding lacks
fields_lack Q n ts h =
    let p = and_true (not (Q n)) (no_more ts (rows n) && all_lack Q ts) h in
    let q = and_true (no_more ts (rows n)) (all_lack Q ts) p.1 in
    (not_true (Q n) p.0, q.0, q.1)

pub appended_lack : (Q : Name → Bool) (ts us : Trees) → all_lack Q ts ≡ true → all_lack Q us ≡ true → all_lack Q (ts ⧺ us) ≡ true
unfolding lacks
appended_lack Q none us h k = k
appended_lack Q (more t ts) us h k =
    let p = and_true (lacks Q t) (all_lack Q ts) h in
    both (lacks Q t) (all_lack Q (ts ⧺ us)) p.0 (appended_lack Q ts us p.1 k)

-- ---- names

-- the records in which components, services or tools stand
abbrev pub is_nested : Name → Bool
is_nested component = true
is_nested service = true
is_nested metadata = true
is_nested bill = true
is_nested _ = false

-- Q has none but nested records.
abbrev pub SparesLeaves : (Name → Bool) → Type 0
SparesLeaves Q = (n : Name) → is_nested n ≡ false → Q n ≡ false

abbrev pub is_component : Name → Bool
is_component component = true
is_component _ = false

abbrev pub is_metadata : Name → Bool
is_metadata metadata = true
is_metadata _ = false

-- a component or a service
abbrev pub is_counted : Name → Bool
is_counted component = true
is_counted service = true
is_counted _ = false

pub components_spare : SparesLeaves is_component
components_spare component e = absurd (false≢true (ap not e))
components_spare _ e = refl

pub metadata_spares : SparesLeaves is_metadata
metadata_spares metadata e = absurd (false≢true (ap not e))
metadata_spares _ e = refl

pub counted_spare : SparesLeaves is_counted
counted_spare component e = absurd (false≢true (ap not e))
counted_spare service e = absurd (false≢true (ap not e))
counted_spare _ e = refl

-- ---- depths

uncounted : (n : Name) (d : Depth) → is_counted n ≡ false → not (name_too_deep n d) ≡ true
uncounted component d e = absurd (false≢true (ap not e))
uncounted service d e = absurd (false≢true (ap not e))
uncounted _ d e = refl

mutual
  unfolding is_shallow lacks

  -- what holds no component and no service is shallow
  pub is_level : (t : Tree) (d : Depth) → lacks is_counted t ≡ true → is_shallow t d ≡ true
  is_level absent d h = refl
  is_level (text s) d h = refl
  is_level (number n) d h = refl
  is_level (boolean b) d h = refl
  is_level (items ts) d h = are_level ts d h
  is_level (fields n ts) d h =
      let p = fields_lack is_counted n ts h in
      both (not (name_too_deep n d)) (are_shallow ts (inside n d)) (uncounted n d p.0) (are_level ts (inside n d) p.2)

  pub are_level : (ts : Trees) (d : Depth) → all_lack is_counted ts ≡ true → are_shallow ts d ≡ true
  are_level none d h = refl
  are_level (more t ts) d h =
      let p = and_true (lacks is_counted t) (all_lack is_counted ts) h in
      both (is_shallow t d) (are_shallow ts d) (is_level t d p.0) (are_level ts d p.1)

-- ---- versions

-- a field that every version may lack, or needs whatever it is
abbrev is_ever : Need → Bool
is_ever optional = true
is_ever required = true
is_ever required_first = false
is_ever else_empty = true

abbrev all_ever : List Row → Bool
all_ever [] = true
all_ever (r ∷ rs) = is_ever r.need && all_ever rs

ever_there : (n : Need) (t : Tree) → is_ever n ≡ true → is_there n t ≡ true
ever_there optional t e = refl
ever_there required t e = refl
ever_there required_first t e = absurd (false≢true e)
ever_there else_empty t e = refl

rows_ever : (n : Name) → is_component n ≡ false → all_ever (rows n) ≡ true
unfolding rows
rows_ever component e = absurd (false≢true (ap not e))
rows_ever _ e = refl

tools_or : (k : Kind) (n : Name) (ts : Trees) → rows_have_versions ts (rows n) ≡ true → has_versions (fields n ts) k ≡ true
unfolding has_versions
tools_or a_tools n ts h = refl
tools_or _ n ts h = h

mutual
  unfolding has_versions lacks

  -- what holds no component fits every version
  pub fits_all : (t : Tree) (k : Kind) → lacks is_component t ≡ true → has_versions t k ≡ true
  fits_all absent k h = refl
  fits_all (text s) k h = refl
  fits_all (number n) k h = refl
  fits_all (boolean b) k h = refl
  fits_all (items ts) k h = items_fit_all ts (held_kind k) h
  fits_all (fields n ts) k h =
      let p = fields_lack is_component n ts h in
      tools_or k n ts (rows_fit_all ts (rows n) (rows_ever n p.0) p.2)

  items_fit_all : (ts : Trees) (k : Kind) → all_lack is_component ts ≡ true → items_have_versions ts k ≡ true
  items_fit_all none k h = refl
  items_fit_all (more t ts) k h =
      let p = and_true (lacks is_component t) (all_lack is_component ts) h in
      both (has_versions t k) (items_have_versions ts k) (fits_all t k p.0) (items_fit_all ts k p.1)

  rows_fit_all : (ts : Trees) (rs : List Row) → all_ever rs ≡ true → all_lack is_component ts ≡ true → rows_have_versions ts rs ≡ true
  rows_fit_all none rs e h = refl
  rows_fit_all (more t ts) [] e h = refl
  rows_fit_all (more t ts) (r ∷ rs) e h =
      let p = and_true (lacks is_component t) (all_lack is_component ts) h in
      let q = and_true (is_ever r.need) (all_ever rs) e in
      both (is_there r.need t && has_versions t r.kind) (rows_have_versions ts rs) (both (is_there r.need t) (has_versions t r.kind) (ever_there r.need t q.0) (fits_all t r.kind p.0))
      (rows_fit_all ts rs q.1 p.1)

-- ---- empty tool lists

abbrev pub is_tools : Kind → Bool
is_tools a_tools = true
is_tools _ = false

abbrev no_tools : List Row → Bool
no_tools [] = true
no_tools (r ∷ rs) = not (is_tools r.kind) && no_tools rs

rows_without : (n : Name) → is_metadata n ≡ false → no_tools (rows n) ≡ true
unfolding rows
rows_without metadata e = absurd (false≢true (ap not e))
rows_without _ e = refl

listed_without : (l : Lists) → is_tools (list l).kind ≡ false
unfolding list
listed_without hashes = refl
listed_without _ = refl

held_without : (k : Kind) → is_tools k ≡ false → is_tools (held_kind k) ≡ false
unfolding list
held_without (a_list l) e = listed_without l
held_without a_tools e = absurd (false≢true (ap not e))
held_without _ e = refl

items_as_is : (k : Kind) (ts : Trees) → is_tools k ≡ false → list_settled k ts ≡ items ts
items_as_is a_tools ts e = absurd (false≢true (ap not e))
items_as_is _ ts e = refl

mutual
  unfolding settled lacks

  -- what holds no metadata has no tools to settle
  pub settled_as_is : (t : Tree) (k : Kind) → is_tools k ≡ false → lacks is_metadata t ≡ true → settled t k ≡ t
  settled_as_is absent k e h = refl
  settled_as_is (text s) k e h = refl
  settled_as_is (number n) k e h = refl
  settled_as_is (boolean b) k e h = refl
  settled_as_is (items ts) k e h = items_as_is k (items_settled ts (held_kind k)) e ∙ ap items (items_settled_as_is ts (held_kind k) (held_without k e) h)
  settled_as_is (fields n ts) k e h =
      let p = fields_lack is_metadata n ts h in
      ap (fields n) (rows_settled_as_is ts (rows n) (rows_without n p.0) p.1 p.2)

  pub items_settled_as_is : (ts : Trees) (k : Kind) → is_tools k ≡ false → all_lack is_metadata ts ≡ true → items_settled ts k ≡ ts
  items_settled_as_is none k e h = refl
  items_settled_as_is (more t ts) k e h =
      let p = and_true (lacks is_metadata t) (all_lack is_metadata ts) h in
      rw (settled_as_is t k e p.0, items_settled_as_is ts k e p.1) refl

  pub rows_settled_as_is : (ts : Trees) (rs : List Row) → no_tools rs ≡ true → no_more ts rs ≡ true → all_lack is_metadata ts ≡ true → rows_settled ts rs ≡ ts
  rows_settled_as_is none rs e m h = refl
  rows_settled_as_is (more t ts) [] e m h = absurd (false≢true m)
  rows_settled_as_is (more t ts) (r ∷ rs) e m h =
      let p = and_true (lacks is_metadata t) (all_lack is_metadata ts) h in
      let q = and_true (not (is_tools r.kind)) (no_tools rs) e in
      rw (settled_as_is t r.kind (not_true (is_tools r.kind) q.0) p.0, rows_settled_as_is ts rs q.1 m p.1) refl
