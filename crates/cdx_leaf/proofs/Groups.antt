-- A child of a record whose rows are cut into groups: it is read into the group that has a row for it.
use Rattle.std.proofs.Common.{◌≡◌, ℕ, zero, suc, ◌+◌, ◌<◌, ◌≤◌, List, [], ◌∷◌, ◌++◌, length, Bool, true, false, Option, Some, None, Result, Ok, Err, refl, sym, ap, ◌∙◌, subst, arith}
use Rattle.std.specs.Prelude.{◌&&◌, bytes_eq, if◌then◌else◌}
use Rattle.cdx_events.specs.declared.name.OwnedName.{OwnedName}
use Rattle.cdx_events.specs.declared.name.OwnedAttribute.{OwnedAttribute}
use Rattle.cdx_events.specs.Nodes.{element}
use Rattle.cdx_events.specs.Cursor.{Cursor}
use Rattle.cdx_models.specs.declared.errors.XmlReadError.{XmlReadError}
use Rattle.cdx_models.specs.declared.bom.SpecVersion.{SpecVersion}
use Rattle.cdx_models.specs.Versions.{knows}
use Rattle.cdx_models.specs.Trees.{Tree, Trees, none, more, field, with_field, ◌⧺◌}
use Rattle.cdx_schema.specs.Results.{◌>>=◌}
use Rattle.cdx_schema.specs.Depth.{Depth}
use Rattle.cdx_schema.specs.Kinds as sorts
use Rattle.cdx_schema.specs.Kinds.{Kind, Row, Spelled, attribute, attribute_or, content, one_text, as_cdata, child, filled_child, children, either_child, the_version}
use Rattle.cdx_schema.specs.XmlReading.{Child, Place, last, once, all, find_child, row_children, children_from, is_second, stored, appended, attributes_read, row_attribute, ended, lacks, name_owed, lacking_row, filled, xread}
use Rattle.cdx_schema.proofs.XmlBack.{children_append}
use Rattle.cdx_leaf.specs.declared.taken.Taken.{Taken}
use Rattle.cdx_leaf.specs.declared.taken.Taken.TheVariants as answers
use Rattle.cdx_leaf.specs.Reading.{Stands, behind_end}
use Rattle.cdx_leaf.specs.Children.{Met, nothing, second, found, meet, ReadsChild, TakesChild}
use Rattle.cdx_leaf.specs.Groups.{rows_plan, size}
use Rattle.cdx_leaf.proofs.Records.{first_fails}

-- ---- fields of groups

field_front : (i : ℕ) (ts us : Trees) → i < size ts → field i (ts ⧺ us) ≡ field i ts
field_front i none us h = absurd (omega (arith, h))
field_front zero (more t ts) us h = refl
field_front (suc i) (more t ts) us h = field_front i ts us (omega (arith, h))

field_back : (i : ℕ) (ts us : Trees) → field (size ts + i) (ts ⧺ us) ≡ field i us
field_back i none us = let e : 0 + i ≡ i = omega arith in ap (λ j. field j us) e
field_back i (more t ts) us = let e : suc (size ts) + i ≡ suc (size ts + i) = omega arith in ap (λ j. field j (more t (ts ⧺ us))) e ∙ field_back i ts us

set_front : (i : ℕ) (t : Tree) (ts us : Trees) → i < size ts → with_field i t (ts ⧺ us) ≡ with_field i t ts ⧺ us
set_front i t none us h = absurd (omega (arith, h))
set_front zero t (more u ts) us h = refl
set_front (suc i) t (more u ts) us h = ap (λ xs. more u xs) (set_front i t ts us (omega (arith, h)))

set_back : (i : ℕ) (t : Tree) (ts us : Trees) → with_field (size ts + i) t (ts ⧺ us) ≡ ts ⧺ with_field i t us
set_back i t none us = let e : 0 + i ≡ i = omega arith in ap (λ j. with_field j t us) e
set_back i t (more u ts) us = let e : suc (size ts) + i ≡ suc (size ts + i) = omega arith in ap (λ j. with_field j t (more u (ts ⧺ us))) e ∙ ap (λ xs. more u xs) (set_back i t ts us)

stored_front : (p : Place) (i : ℕ) (t : Tree) (ts us : Trees) → i < size ts → stored p i t (ts ⧺ us) ≡ stored p i t ts ⧺ us
stored_front last i t ts us h = set_front i t ts us h
stored_front once i t ts us h = set_front i t ts us h
stored_front all i t ts us h = ap (λ x. with_field i (appended x t) (ts ⧺ us)) (field_front i ts us h) ∙ set_front i (appended (field i ts) t) ts us h

stored_back : (p : Place) (i : ℕ) (t : Tree) (ts us : Trees) → stored p (size ts + i) t (ts ⧺ us) ≡ ts ⧺ stored p i t us
stored_back last i t ts us = set_back i t ts us
stored_back once i t ts us = set_back i t ts us
stored_back all i t ts us = ap (λ x. with_field (size ts + i) (appended x t) (ts ⧺ us)) (field_back i ts us) ∙ set_back i (appended (field i us) t) ts us

-- ---- children of groups

-- a child whose field stands k further back
abbrev moved : ℕ → Child → Child
moved k c = record c { field = k + c.field }

abbrev moved_all : ℕ → List Child → List Child
moved_all k [] = []
moved_all k (c ∷ cs) = moved k c ∷ moved_all k cs

moved_append : (k : ℕ) (cs ds : List Child) → moved_all k (cs ++ ds) ≡ moved_all k cs ++ moved_all k ds
moved_append k [] ds = refl
moved_append k (c ∷ cs) ds = ap (moved k c ∷◌) (moved_append k cs ds)

row_moved : (k i : ℕ) (r : Row) → row_children (k + i) r ≡ moved_all k (row_children i r)
row_moved k i r = by r.xml
  where
    by : (x : Spelled) → row_children (k + i) (record r { xml = x }) ≡ moved_all k (row_children i (record r { xml = x }))
    by (attribute name) = refl
    by (attribute_or name n) = refl
    by content = refl
    by one_text = refl
    by as_cdata = refl
    by (child name) = refl
    by (filled_child name) = refl
    by (children name) = refl
    by (either_child m n) = refl
    by the_version = refl

all_moved : (k i : ℕ) (rs : List Row) → children_from (k + i) rs ≡ moved_all k (children_from i rs)
all_moved k i [] = refl
all_moved k i (r ∷ rs) =
    let e : suc (k + i) ≡ k + suc i = omega arith in
    ap (◌++ children_from (suc (k + i)) rs) (row_moved k i r)
    ∙ ap (λ j. moved_all k (row_children i r) ++ children_from j rs) e
    ∙ ap (moved_all k (row_children i r) ++◌) (all_moved k (suc i) rs)
    ∙ sym (moved_append k (row_children i r) (children_from (suc i) rs))

abbrev moved_found : ℕ → Option Child → Option Child
moved_found k None = None
moved_found k (Some c) = Some (moved k c)

find_moved : (v : SpecVersion) (s : List ℕ) (k : ℕ) (cs : List Child) → find_child v s (moved_all k cs) ≡ moved_found k (find_child v s cs)
find_moved v s k [] = refl
find_moved v s k (c ∷ cs) = go (bytes_eq s c.name && knows c.since v) (find_moved v s k cs)
  where
    go : (b : Bool) → find_child v s (moved_all k cs) ≡ moved_found k (find_child v s cs) → (if b then Some (moved k c) else find_child v s (moved_all k cs)) ≡ moved_found k (if b then Some c else find_child v s cs)
    go true e = refl
    go false e = e

abbrev or_else : Option Child → Option Child → Option Child
or_else None o = o
or_else (Some c) o = Some c

find_either : (v : SpecVersion) (s : List ℕ) (cs ds : List Child) → find_child v s (cs ++ ds) ≡ or_else (find_child v s cs) (find_child v s ds)
find_either v s [] ds = refl
find_either v s (c ∷ cs) ds = go (bytes_eq s c.name && knows c.since v) (find_either v s cs ds)
  where
    go : (b : Bool) → find_child v s (cs ++ ds) ≡ or_else (find_child v s cs) (find_child v s ds) → (if b then Some c else find_child v s (cs ++ ds)) ≡ or_else (if b then Some c else find_child v s cs) (find_child v s ds)
    go true e = refl
    go false e = e

-- the child that two groups have for a name
find_of_two : (v : SpecVersion) (s : List ℕ) (rs qs : List Row) → find_child v s (children_from 0 (rs ++ qs)) ≡ or_else (find_child v s (children_from 0 rs)) (moved_found (length rs) (find_child v s (children_from 0 qs)))
find_of_two v s rs qs =
    let e : 0 + length rs ≡ length rs + 0 = omega arith in
    ap (find_child v s) (children_append 0 rs qs ∙ ap (λ j. children_from 0 rs ++ children_from j qs) e ∙ ap (children_from 0 rs ++◌) (all_moved (length rs) 0 qs))
    ∙ find_either v s (children_from 0 rs) (moved_all (length rs) (children_from 0 qs))
    ∙ ap (or_else (find_child v s (children_from 0 rs))) (find_moved v s (length rs) (children_from 0 qs))

-- ---- each child of rows stands in one of their fields

abbrev AllBelow : ℕ → List Child → Type 0
AllBelow n [] = Unit {0}
AllBelow n (c ∷ cs) = (c.field < n) × AllBelow n cs

below_append : (n : ℕ) (cs ds : List Child) → AllBelow n cs → AllBelow n ds → AllBelow n (cs ++ ds)
below_append n [] ds a b = b
below_append n (c ∷ cs) ds a b = (a.0, below_append n cs ds a.1 b)

row_below : (n i : ℕ) (r : Row) → i < n → AllBelow n (row_children i r)
row_below n i r h = by r.xml
  where
    by : (x : Spelled) → AllBelow n (row_children i (record r { xml = x }))
    by (attribute name) = tt
    by (attribute_or name m) = tt
    by content = tt
    by one_text = tt
    by as_cdata = tt
    by (child name) = (h, tt)
    by (filled_child name) = (h, tt)
    by (children name) = (h, tt)
    by (either_child l m) = (h, (h, tt))
    by the_version = tt

rows_below : (n i : ℕ) (rs : List Row) → i + length rs ≤ n → AllBelow n (children_from i rs)
rows_below n i [] h = tt
rows_below n i (r ∷ rs) h = below_append n (row_children i r) (children_from (suc i) rs) (row_below n i r (omega (arith, h))) (rows_below n (suc i) rs (omega (arith, h)))

found_below : (v : SpecVersion) (s : List ℕ) (n : ℕ) (cs : List Child) (c : Child) → AllBelow n cs → find_child v s cs ≡ Some c → c.field < n
found_below v s n [] c a e = absurd cc
found_below v s n (x ∷ cs) c a e = go (bytes_eq s x.name && knows x.since v) e (found_below v s n cs c a.1)
  where
    go : (b : Bool) → (if b then Some x else find_child v s cs) ≡ Some c → (find_child v s cs ≡ Some c → c.field < n) → c.field < n
    go true e rest = let same : x ≡ c = cc in subst (λ (y : Child). y.field < n) same a.0
    go false e rest = rest e

-- ---- what a group makes of a child, seen from the whole record

abbrev lifted : (Trees → Trees) → Met → Met
lifted f nothing = nothing
lifted f second = second
lifted f (found r) = found (r >>= λ ts. Ok (f ts))

meet_lifted : (f : Trees → Trees) (place' : Place) (i j : ℕ) (k : Kind) (read : Kind → Result Tree XmlReadError) (ts us : Trees) → field j us ≡ field i ts → ((t : Tree) → stored place' j t us ≡ f (stored place' i t ts))
    → (if is_second place' (field j us) then second else found (read k >>= λ t. Ok (stored place' j t us))) ≡ lifted f (if is_second place' (field i ts) then second else found (read k >>= λ t. Ok (stored place' i t ts)))
meet_lifted f place' i j k read ts us e s =
    ap (λ x. if is_second place' x then second else found (read k >>= λ t. Ok (stored place' j t us))) e ∙ go (is_second place' (field i ts))
  where
    inner : (r : Result Tree XmlReadError) → (r >>= λ t. Ok (stored place' j t us)) ≡ ((r >>= λ t. Ok (stored place' i t ts)) >>= λ x. Ok (f x))
    inner (Ok t) = ap Ok (s t)
    inner (Err x) = refl

    go : (b : Bool) → (if b then second else found (read k >>= λ t. Ok (stored place' j t us))) ≡ lifted f (if b then second else found (read k >>= λ t. Ok (stored place' i t ts)))
    go true = refl
    go false = ap (λ x. found x) (inner (read k))

meet_front : (c : Child) (read : Kind → Result Tree XmlReadError) (ts us : Trees) → c.field < size ts → meet (Some c) read (ts ⧺ us) ≡ lifted (λ x. x ⧺ us) (meet (Some c) read ts)
meet_front c read ts us h = meet_lifted (λ x. x ⧺ us) c.place c.field c.field c.kind read ts (ts ⧺ us) (field_front c.field ts us h) (λ t. stored_front c.place c.field t ts us h)

meet_back : (o : Option Child) (read : Kind → Result Tree XmlReadError) (ts us : Trees) → meet (moved_found (size ts) o) read (ts ⧺ us) ≡ lifted (λ x. ts ⧺ x) (meet o read us)
meet_back None read ts us = refl
meet_back (Some c) read ts us = meet_lifted (λ x. ts ⧺ x) c.place c.field (size ts + c.field) c.kind read us (ts ⧺ us) (field_back c.field ts us) (λ t. stored_back c.place c.field t ts us)

reads_lifted : (f : Trees → Trees) (before now : Trees) (old new end : Cursor) (m : Met) (r : Result Taken XmlReadError) → ReadsChild before now old new end m r → ReadsChild (f before) (f now) old new end (lifted f m) r
reads_lifted f before now old new end m (Ok answers.Read) h = (ap (lifted f) h.0, h.1)
reads_lifted f before now old new end m (Ok answers.Unknown) h = (ap (lifted f) h.0, ap f h.1, h.2)
reads_lifted f before now old new end m (Ok answers.Second) h = (ap (lifted f) h.0, ap f h.1, h.2)
reads_lifted f before now old new end m (Err e) h = record { read = h.read >>= λ ts. Ok (f ts); met_is = ap (lifted f) h.met_is; grown = h.grown; fails = first_fails e new.place h.read (λ ts. Ok (f ts)) h.fails }

-- a group that knows no child of the name says so
no_child : (before now : Trees) (old new end : Cursor) (r : Result Taken XmlReadError) → (r ≡ Ok answers.Unknown → ⊥) → ReadsChild before now old new end nothing r → ⊥
no_child before now old new end (Ok answers.Read) other h = let wrong : nothing ≡ found (Ok now) = h.0 in absurd cc
no_child before now old new end (Ok answers.Unknown) other h = other refl
no_child before now old new end (Ok answers.Second) other h = let wrong : nothing ≡ second = h.0 in absurd cc
no_child before now old new end (Err e) other h = let wrong : nothing ≡ found h.read = h.met_is in absurd cc

-- and one that says so knows none
none_met : (o : Option Child) (read : Kind → Result Tree XmlReadError) (ts : Trees) → meet o read ts ≡ nothing → o ≡ None
none_met None read ts h = refl
none_met (Some c) read ts h = go (is_second c.place (field c.field ts)) h
  where
    go : (b : Bool) → (if b then second else found (read c.kind >>= λ t. Ok (stored c.place c.field t ts))) ≡ nothing → Some c ≡ None
    go true e = absurd cc
    go false e = absurd cc

module _ (rule : sorts.Rule) (v : SpecVersion) (n : OwnedName) (a : List OwnedAttribute) (rs qs : List Row) (depth : Depth → Depth) where
  -- The front has read the child, or refuses it.
  pub takes_front : (front : sorts.Rule) (before now us : Trees) (old new : Cursor) (r : Result Taken XmlReadError) → length rs ≡ size before → (r ≡ Ok answers.Unknown → ⊥)
      → TakesChild before now old new v (rows_plan front rs) depth n a r → TakesChild (before ⧺ us) (now ⧺ us) old new v (rows_plan rule (rs ++ qs)) depth n a r
  takes_front front before now us old new r long other takes d ns p nodes rest st =
      go (find_child v n.local_name (children_from 0 rs)) refl (takes d ns p nodes rest st)
    where
      read : Kind → Result Tree XmlReadError
      read k = xread (element n a ns nodes) v k p (depth d)

      go : (o : Option Child) → find_child v n.local_name (children_from 0 rs) ≡ o → ReadsChild before now old new (behind_end old nodes rest) (meet o read before) r
          → ReadsChild (before ⧺ us) (now ⧺ us) old new (behind_end old nodes rest) (meet (find_child v n.local_name (children_from 0 (rs ++ qs))) read (before ⧺ us)) r
      go None e h = absurd (no_child before now old new (behind_end old nodes rest) r other h)
      go (Some c) e h =
          let below : c.field < length rs = found_below v n.local_name (length rs) (children_from 0 rs) c (rows_below (length rs) 0 rs (omega arith)) e in
          let small : c.field < size before = subst (λ m. c.field < m) long below in
          let is = ap (λ o. meet o read (before ⧺ us)) (find_of_two v n.local_name rs qs ∙ ap (λ o. or_else o (moved_found (length rs) (find_child v n.local_name (children_from 0 qs)))) e) ∙ meet_front c read before us small in
          subst (λ m. ReadsChild (before ⧺ us) (now ⧺ us) old new (behind_end old nodes rest) m r) (sym is) (reads_lifted (λ x. x ⧺ us) before now old new (behind_end old nodes rest) (meet (Some c) read before) r h)

  -- The front knows no child of the name, and the back has read it, refuses it, or knows none either.
  pub takes_back : (front back : sorts.Rule) (ts ts' before now : Trees) (old mid new : Cursor) (r : Result Taken XmlReadError) → length rs ≡ size ts
      → TakesChild ts ts' old mid v (rows_plan front rs) depth n a (Ok answers.Unknown)
      → TakesChild before now mid new v (rows_plan back qs) depth n a r
      → TakesChild (ts ⧺ before) (ts' ⧺ now) old new v (rows_plan rule (rs ++ qs)) depth n a r
  takes_back front back ts ts' before now old mid new r long first then' d ns p nodes rest st =
      let h = first d ns p nodes rest st in
      let read : Kind → Result Tree XmlReadError = λ k. xread (element n a ns nodes) v k p (depth d) in
      let o = find_child v n.local_name (children_from 0 qs) in
      let gone : find_child v n.local_name (children_from 0 rs) ≡ None = none_met (find_child v n.local_name (children_from 0 rs)) read ts h.0 in
      let there : Stands mid n p nodes rest = subst (λ c. Stands c n p nodes rest) (sym h.2) st in
      let g = subst (λ c. ReadsChild before now c new (behind_end c nodes rest) (meet o read before) r) h.2 (then' d ns p nodes rest there) in
      let is = ap (λ x. meet x read (ts ⧺ before)) (find_of_two v n.local_name rs qs ∙ ap (λ x. or_else x (moved_found (length rs) o)) gone ∙ ap (λ k. moved_found k o) long) ∙ meet_back o read ts before in
      let all' = subst (λ m. ReadsChild (ts ⧺ before) (ts ⧺ now) old new (behind_end old nodes rest) m r) (sym is) (reads_lifted (λ x. ts ⧺ x) before now old new (behind_end old nodes rest) (meet o read before) r g) in
      subst (λ x. ReadsChild (ts ⧺ before) (x ⧺ now) old new (behind_end old nodes rest) (meet (find_child v n.local_name (children_from 0 (rs ++ qs))) read (ts ⧺ before)) r) (sym h.1) all'

-- ---- attributes and ends of groups

ok_again : {T : Type 0} (r : Result T XmlReadError) → r ≡ (r >>= λ x. Ok x)
ok_again (Ok x) = refl
ok_again (Err e) = refl

row_then : (t : Tree) (one' : Result Trees XmlReadError) (two' : Result Trees XmlReadError) → ((one' >>= λ ts. two' >>= λ us. Ok (ts ⧺ us)) >>= λ ts. Ok (more t ts)) ≡ ((one' >>= λ ts. Ok (more t ts)) >>= λ ts. two' >>= λ us. Ok (ts ⧺ us))
row_then t (Ok ts) (Ok us) = refl
row_then t (Ok ts) (Err e) = refl
row_then t (Err e) two' = refl

-- The attributes of two groups are those of the first and then those of the second.
pub attributes_of_two : (rs qs : List Row) (as' : List OwnedAttribute) (v : SpecVersion) (el : List ℕ) (p : ℕ)
    → attributes_read (rs ++ qs) as' v el p ≡ (attributes_read rs as' v el p >>= λ ts. attributes_read qs as' v el p >>= λ us. Ok (ts ⧺ us))
unfolding attributes_read
attributes_of_two [] qs as' v el p = ok_again (attributes_read qs as' v el p)
attributes_of_two (r ∷ rs) qs as' v el p = by (row_attribute r as' v el p) (attributes_of_two rs qs as' v el p)
  where
    by : (first : Result Tree XmlReadError) → attributes_read (rs ++ qs) as' v el p ≡ (attributes_read rs as' v el p >>= λ ts. attributes_read qs as' v el p >>= λ us. Ok (ts ⧺ us))
        → (first >>= λ t. attributes_read (rs ++ qs) as' v el p >>= λ ts. Ok (more t ts)) ≡ ((first >>= λ t. attributes_read rs as' v el p >>= λ ts. Ok (more t ts)) >>= λ ts. attributes_read qs as' v el p >>= λ us. Ok (ts ⧺ us))
    by (Ok t) e = ap (λ x. x >>= λ ts. Ok (more t ts)) e ∙ row_then t (attributes_read rs as' v el p) (attributes_read qs as' v el p)
    by (Err f) e = refl

-- What is missing at the end of two groups is what is missing of the first, or else of the second.
pub ended_of_two : (rs qs : List Row) (ts us : Trees) (v : SpecVersion) (el : List ℕ) (p : ℕ) → length rs ≡ size ts
    → ended (rs ++ qs) (ts ⧺ us) v el p ≡ (ended rs ts v el p >>= λ xs. ended qs us v el p >>= λ ys. Ok (xs ⧺ ys))
unfolding ended
ended_of_two [] qs none us v el p long = ok_again (ended qs us v el p)
ended_of_two [] qs (more t ts) us v el p long = absurd (omega (arith, long))
ended_of_two (r ∷ rs) qs none us v el p long = absurd (omega (arith, long))
ended_of_two (r ∷ rs) qs (more t ts) us v el p long = by (name_owed r.xml) (lacks (name_owed r.xml) r t v) refl (ended_of_two rs qs ts us v el p (omega (arith, long)))
  where
    whole : Result Trees XmlReadError
    whole = ended (rs ++ qs) (ts ⧺ us) v el p

    front : Result Trees XmlReadError
    front = ended rs ts v el p

    back : Result Trees XmlReadError
    back = ended qs us v el p

    by : (o : Option (List ℕ)) (b : Bool) → lacks o r t v ≡ b → whole ≡ (front >>= λ xs. back >>= λ ys. Ok (xs ⧺ ys))
        → (if b then lacking_row o el p (Ok none) else (whole >>= λ xs. Ok (more (filled r t) xs))) ≡ ((if b then lacking_row o el p (Ok none) else (front >>= λ xs. Ok (more (filled r t) xs))) >>= λ xs. back >>= λ ys. Ok (xs ⧺ ys))
    by None true h e = absurd cc
    by (Some name) true h e = refl
    by o false h e = ap (λ x. x >>= λ xs. Ok (more (filled r t) xs)) e ∙ row_then (filled r t) front back

-- ---- whether a group has a row for a child

-- what a group answers
abbrev pub answer : Taken → Result Taken XmlReadError
answer b = Ok b
