-- How the steps of a walk add up.
use Rattle.std.specs.Prelude.{◌≡◌, refl, ℕ, suc, ◌+◌, ◌<◌, ◌≤◌, List, [], ◌∷◌, ◌++◌, length, take, drop, Bool, true, false, not, ◌&&◌, Option, Some, None, is_some, Result, OnOk}
use Rattle.std.proofs.Common.{get_or}
use Rattle.std.proofs.lemmas.List.{map-append, append-nil, append_assoc, at_drop_more, at_drop_all}
use Rattle.std.proofs.lemmas.Result.{IfOk-weaker}
use mathlib.Core.Path.{ap, sym, ◌∙◌, subst}
use native.Mathlib.Omega.{arith}
use Rattle.cdx_models.specs.declared.errors.Step.{Step}
use Rattle.cdx_models.specs.declared.bom.SpecVersion.{SpecVersion}
use Rattle.cdx_models.specs.Versions.{knows, is_first}
use Rattle.cdx_models.specs.Trees.{Tree, absent, present, each, is_absent}
use Rattle.cdx_schema.specs.Kinds.{Kind, Row}
use Rattle.cdx_schema.specs.Kinds as kinds
use Rattle.cdx_schema.specs.Faults.{to_member, to_item}
use Rattle.cdx_schema.specs.JsonReading.{or_else}
use Rattle.cdx_schema.specs.Trips.{is_passed_over}
use Rattle.cdx_schema.proofs.XmlLaw.{absent_is}
use Rattle.cdx_ways.specs.Ways.{At, behind_step, behind_row}
use Rattle.cdx_losses.specs.declared.loss.Loss.{Loss}
use Rattle.cdx_losses.specs.declared.loss.Reason.{Reason}
use Rattle.cdx_losses.specs.declared.loss.Reason.TheVariants.{Version, Xml}
use Rattle.cdx_losses.specs.declared.road.Road.{Road}
use Rattle.cdx_losses.specs.declared.walk.Walk.{Walk}
use Rattle.cdx_losses.specs.Losses.{changed_by, is_tripped, if_so, field_reason, item_reason, entry_or, lost, items_lost}
use Rattle.cdx_losses.specs.Told.{told, all_told}
use Rattle.cdx_losses.specs.Walks.{below, AddsLosses, value_lost}
use Rattle.cdx_losses.proofs.Spared.{is_lasting, is_always, row_lost, reason_there, lasting_stays, version_reason, no_field_reason, no_item_reason, not_skipped, spared_unchanged, nothing_lost}
use Rattle.cdx_losses.proofs.Levels.{Spared}
use Rattle.cdx_schema.proofs.JsonBack.{and_true}
use Rattle.cdx_losses.proofs.Members.{first_known}
use Rattle.cdx_ways.proofs.Lists.{cut_back}

abbrev Entries : Type 0
Entries = List (At Reason)

below_append : (p : List Step) (xs ys : Entries) → below p (xs ++ ys) ≡ below p xs ++ below p ys
below_append p xs ys = map-append (λ x. (p ++ x.0, x.1)) xs ys

below_step : (p : List Step) (s : Step) (xs : Entries) → below (p ++ s ∷ []) xs ≡ below p (behind_step s xs)
below_step p s [] = refl
below_step p s (x ∷ xs) = ap (λ q. (q, x.1) ∷ below (p ++ s ∷ []) xs) (append_assoc p (s ∷ []) x.0) ∙ ap (λ es. (p ++ s ∷ x.0, x.1) ∷ es) (below_step p s xs)

pub adds_same : (xs ys : Entries) (a b : Walk) → ys ≡ xs → AddsLosses xs a b → AddsLosses ys a b
adds_same xs ys a b h e = subst (λ (zs : Entries). AddsLosses zs a b) (sym h) e

-- the same of the result of a last call
pub ok_same : {T E : Type 0} (r : Result T E) (xs ys : Entries) (a b : Walk) → ys ≡ xs → OnOk r (AddsLosses xs a b) → OnOk r (AddsLosses ys a b)
ok_same r xs ys a b h e = IfOk-weaker r (λ z. AddsLosses xs a b) (λ z. AddsLosses ys a b) (λ z f. adds_same xs ys a b h f) e

pub adds_none : (a : Walk) → AddsLosses [] a a
adds_none a = (refl, sym (append-nil (all_told a.losses)))

pub adds_both : (xs ys : Entries) (a b c : Walk) → AddsLosses xs a b → AddsLosses ys b c → AddsLosses (xs ++ ys) a c
adds_both xs ys a b c e f = (
  f.0 ∙ e.0,
  f.1 ∙ (ap (λ z. all_told b.losses ++ below z ys) e.0 ∙ (ap (λ z. z ++ below a.path.items ys) e.1 ∙ (append_assoc (all_told a.losses) (below a.path.items xs) (below a.path.items ys) ∙ ap (λ z. all_told a.losses ++ z) (sym (below_append a.path.items xs ys))))),
)

pub adds_end : (xs : Entries) (a b : Walk) → AddsLosses xs a b → AddsLosses (xs ++ []) a b
adds_end xs a b e = adds_same xs (xs ++ []) a b (append-nil xs) e

pub adds_one : (why : Reason) (a b : Walk) (x : Loss) → b.path.items ≡ a.path.items → b.losses ≡ a.losses ++ x ∷ [] → told x ≡ (a.path.items, why) → AddsLosses (([], why) ∷ []) a b
adds_one why a b x same is h = (same, ap all_told is ∙ (map-append told a.losses (x ∷ []) ∙ ap (λ z. all_told a.losses ++ z ∷ []) (h ∙ ap (λ q. (q, why)) (sym (append-nil a.path.items)))))

-- What is added between a step and the way back is added behind the step: a enters at b, adds up to c, and goes back to d.
pub adds_behind : (s : Step) (xs : Entries) (a b c d : Walk) (n : ℕ) → b.path.items ≡ a.path.items ++ s ∷ [] → b.losses ≡ a.losses → AddsLosses xs b c
    → n ≡ length a.path.items → d.path.items ≡ take n c.path.items → d.losses ≡ c.losses → AddsLosses (behind_step s xs) a d
adds_behind s xs a b c d n is same e long cut kept = (
  cut_back a.path.items b.path.items c.path.items d.path.items s n is e.0 long cut,
  ap all_told kept ∙ (e.1 ∙ (ap (λ z. all_told z ++ below b.path.items xs) same ∙ ap (λ z. all_told a.losses ++ z) (ap (λ z. below z xs) is ∙ below_step a.path.items s xs))),
)

whole : (xs : Entries) → below [] xs ≡ xs
whole [] = refl
whole (x ∷ xs) = ap (λ ys. x ∷ ys) (whole xs)

-- what is added from the root on, where nothing was found before
pub adds_root : (xs : Entries) (a b : Walk) → a.path.items ≡ [] → a.losses ≡ [] → AddsLosses xs a b → all_told b.losses ≡ xs
adds_root xs a b start empty e = e.1 ∙ (ap (λ z. all_told z ++ below a.path.items xs) empty ∙ (ap (λ z. below z xs) start ∙ whole xs))

-- ---- values

-- Of what isn't there nothing is taken.
pub nothing_there : (u : SpecVersion) (n : ℕ) (k : Kind) → lost u n absent k ≡ []
unfolding lost
nothing_there u n k = refl

pub absent_lost : (road : Road) (k : Kind) → value_lost road absent k ≡ []
unfolding lost
absent_lost road k = ap (λ b. entry_or (if_so b Xml) []) (not_skipped road.trips absent refl)

-- a member that isn't there
pub adds_absent : {A : Type 0} (f : A → Tree) (g : Tree → Entries) (s : Step) (o : Option A) (a : Walk) → g absent ≡ [] → o ≡ None → AddsLosses (behind_step s (g (present f o))) a a
adds_absent f g s o a none is = adds_same [] (behind_step s (g (present f o))) a a (ap (λ z. behind_step s (g (present f z))) is ∙ ap (behind_step s) none) (adds_none a)

-- a member that is there: a enters it at b, adds up to c, and goes back to d
pub adds_row : {A : Type 0} (f : A → Tree) (g : Tree → Entries) (s : Step) (x : A) (o : Option A) (a b c d : Walk) (n : ℕ) → o ≡ Some x → b.path.items ≡ a.path.items ++ s ∷ [] → b.losses ≡ a.losses → AddsLosses (g (f x)) b c
    → n ≡ length a.path.items → d.path.items ≡ take n c.path.items → d.losses ≡ c.losses → AddsLosses (behind_step s (g (present f o))) a d
adds_row f g s x o a b c d n is entered same added long cut kept =
    adds_same (behind_step s (g (f x))) (behind_step s (g (present f o))) a d (ap (λ z. behind_step s (g (present f z))) is) (adds_behind s (g (f x)) a b c d n entered same added long cut kept)

-- ---- rows

-- What no version changes and no trip takes is taken where the version doesn't know it.
unknown_row : {A : Type 0} (f : A → Tree) (u : SpecVersion) (n : ℕ) (r : Row) (o : Option A) → is_lasting r.xml r.need ≡ true → Spared f → ((x : A) → is_absent (f x) ≡ false)
    → row_lost u n r (present f o) ≡ behind_row r.json (entry_or (if_so (is_some o && not (knows r.since u)) Version) [])
unfolding lost
unknown_row f u n r None s h g = refl
unknown_row f u n r (Some x) s h g =
    ap (λ o. behind_row r.json (entry_or o (lost u n (f x) r.kind))) (version_reason u n r (f x) s (spared_unchanged u r.kind (f x) (h x)) (g x))
    ∙ ap (λ xs. behind_row r.json (entry_or (if_so (not (knows r.since u)) Version) xs)) (nothing_lost u n (f x) r.kind (h x))

pub adds_unknown : {A : Type 0} (f : A → Tree) (u : SpecVersion) (n : ℕ) (r : Row) (s : List ℕ) (o : Option A) (why : Option Reason) (a b : Walk) → is_lasting r.xml r.need ≡ true → Spared f → ((x : A) → is_absent (f x) ≡ false)
    → r.json ≡ kinds.member s → why ≡ if_so (is_some o && not (knows r.since u)) Version → AddsLosses (behind_step (to_member s) (entry_or why [])) a b → AddsLosses (row_lost u n r (present f o)) a b
adds_unknown f u n r s o why a b l h g j is e =
    adds_same (behind_step (to_member s) (entry_or why [])) (row_lost u n r (present f o)) a b
    (unknown_row f u n r o l h g ∙ (ap (λ m. behind_row m (entry_or (if_so (is_some o && not (knows r.since u)) Version) [])) j ∙ ap (λ w. behind_step (to_member s) (entry_or w [])) (sym is))) e

-- A row that every version knows and that no trip takes is taken as its value.
value_row : (u : SpecVersion) (n : ℕ) (r : Row) (t : Tree) → is_always r ≡ true → is_passed_over t ≡ false → field_reason u n r t ≡ item_reason u n r.kind t
value_row u n r t a p = by (is_absent t) refl
  where
    by : (b : Bool) → is_absent t ≡ b → field_reason u n r t ≡ item_reason u n r.kind t
    by true e = ap (field_reason u n r) (absent_is t e) ∙ sym (no_item_reason u n r.kind t (ap (changed_by u r.kind) (absent_is t e)) p)
    by false e =
        let q = and_true (is_first r.since) (is_lasting r.xml r.need) a in
        reason_there u n r t e
        ∙ (ap (λ b. or_else (if_so (not b) Version) (or_else (changed_by u r.kind t) (if_so (is_tripped n r t) Xml))) (first_known r.since u q.0)
        ∙ (ap (λ b. or_else (changed_by u r.kind t) (if_so b Xml)) (lasting_stays n r t q.1 e)
        ∙ sym (ap (λ b. or_else (changed_by u r.kind t) (if_so b Xml)) (not_skipped n t p))))

pub adds_value : (road : Road) (r : Row) (s : List ℕ) (t : Tree) (a b : Walk) → is_always r ≡ true → is_passed_over t ≡ false → r.json ≡ kinds.member s
    → AddsLosses (behind_step (to_member s) (value_lost road t r.kind)) a b → AddsLosses (row_lost road.version road.trips r t) a b
adds_value road r s t a b l p j e =
    adds_same (behind_step (to_member s) (value_lost road t r.kind)) (row_lost road.version road.trips r t) a b
    (ap (λ m. behind_row m (entry_or (field_reason road.version road.trips r t) (lost road.version road.trips t r.kind))) j
    ∙ ap (λ o. behind_step (to_member s) (entry_or o (lost road.version road.trips t r.kind))) (value_row road.version road.trips r t l p)) e

-- A row that no road takes whole.
pub adds_inside : (u : SpecVersion) (n : ℕ) (r : Row) (s : List ℕ) (t : Tree) (a b : Walk) → is_always r ≡ true → changed_by u r.kind t ≡ None → r.json ≡ kinds.member s
    → AddsLosses (behind_step (to_member s) (lost u n t r.kind)) a b → AddsLosses (row_lost u n r t) a b
adds_inside u n r s t a b l c j e =
    adds_same (behind_step (to_member s) (lost u n t r.kind)) (row_lost u n r t) a b
    (ap (λ m. behind_row m (entry_or (field_reason u n r t) (lost u n t r.kind))) j
    ∙ ap (λ o. behind_step (to_member s) (entry_or o (lost u n t r.kind))) (no_field_reason u n r t l c)) e

-- A row for a reason, or what is taken inside it.
pub adds_or : (u : SpecVersion) (n : ℕ) (r : Row) (s : List ℕ) (t : Tree) (why : Option Reason) (xs : Entries) (a b : Walk) → lost u n t r.kind ≡ xs → r.json ≡ kinds.member s → why ≡ field_reason u n r t
    → AddsLosses (behind_step (to_member s) (entry_or why xs)) a b → AddsLosses (row_lost u n r t) a b
adds_or u n r s t why xs a b h j is e =
    adds_same (behind_step (to_member s) (entry_or why xs)) (row_lost u n r t) a b
    (ap (λ m. behind_row m (entry_or (field_reason u n r t) (lost u n t r.kind))) j
    ∙ (ap (λ ys. behind_step (to_member s) (entry_or (field_reason u n r t) ys)) h
    ∙ ap (λ w. behind_step (to_member s) (entry_or w xs)) (sym is))) e

-- ---- the items of a list

-- what is still to be taken from an item on, behind what is there, is the whole
abbrev pub Remains : {X : Type 0} → (X → Tree) → Kind → Road → List Step → List X → ℕ → List Loss → Entries → Type 0
Remains f k road p xs i e whole = all_told e ++ below p (items_lost road.version road.trips (each f (drop i xs)) k i) ≡ whole

next_item : (i : ℕ) → suc i ≡ i + 1
next_item i = omega arith

item_step : {X : Type 0} (f : X → Tree) (k : Kind) (road : Road) (xs : List X) (i : ℕ) (x : X) → i < length xs → x ≡ get_or xs i x
    → items_lost road.version road.trips (each f (drop i xs)) k i ≡ behind_step (to_item i) (value_lost road (f x) k) ++ items_lost road.version road.trips (each f (drop (i + 1) xs)) k (i + 1)
unfolding lost
item_step f k road xs i x h is =
    at_drop_more (λ zs. items_lost road.version road.trips (each f zs) k i) xs i x h
    ∙ (ap (λ m. behind_step (to_item i) (value_lost road (f (get_or xs i x)) k) ++ items_lost road.version road.trips (each f (drop (i + 1) xs)) k m) (next_item i)
    ∙ ap (λ z. behind_step (to_item i) (value_lost road (f z) k) ++ items_lost road.version road.trips (each f (drop (i + 1) xs)) k (i + 1)) (sym is))

remains_next : {X : Type 0} (f : X → Tree) (k : Kind) (road : Road) (p : List Step) (xs : List X) (i : ℕ) (x : X) (e g : List Loss) (whole : Entries) → i < length xs → x ≡ get_or xs i x
    → all_told g ≡ all_told e ++ below p (behind_step (to_item i) (value_lost road (f x) k)) → Remains f k road p xs i e whole → Remains f k road p xs (i + 1) g whole
remains_next f k road p xs i x e g whole h is a r =
    let first = behind_step (to_item i) (value_lost road (f x) k) in
    let rest = items_lost road.version road.trips (each f (drop (i + 1) xs)) k (i + 1) in
    ap (λ z. z ++ below p rest) a
    ∙ (append_assoc (all_told e) (below p first) (below p rest)
    ∙ (ap (λ z. all_told e ++ z) (sym (below_append p first rest) ∙ ap (below p) (sym (item_step f k road xs i x h is))) ∙ r))

-- A round of the loop: the walk a, which stands where the loop began, enters the item at b, adds it up to c, and goes back to d.
pub round : {X : Type 0} (f : X → Tree) (k : Kind) (road : Road) (xs : List X) (i : ℕ) (x : X) (began a b c d : Walk) (n : ℕ) (whole : Entries) → i < length xs → x ≡ get_or xs i x
    → (a.path.items ≡ began.path.items) × Remains f k road began.path.items xs i a.losses whole
    → b.path.items ≡ a.path.items ++ to_item i ∷ [] → b.losses ≡ a.losses → AddsLosses (value_lost road (f x) k) b c
    → n ≡ length began.path.items → d.path.items ≡ take n c.path.items → d.losses ≡ c.losses
    → (d.path.items ≡ began.path.items) × Remains f k road began.path.items xs (i + 1) d.losses whole
round f k road xs i x began a b c d n whole h is before entered same added long cut kept =
    let e = adds_behind (to_item i) (value_lost road (f x) k) a b c d n entered same added (long ∙ ap length (sym before.0)) cut kept in (
      e.0 ∙ before.0,
      remains_next f k road began.path.items xs i x a.losses d.losses whole h is (e.1 ∙ ap (λ z. all_told a.losses ++ below z (behind_step (to_item i) (value_lost road (f x) k))) before.0) before.1,
    )

pub round_first : {X : Type 0} (f : X → Tree) (k : Kind) (road : Road) (xs : List X) (whole : Entries) (a : Walk) → whole ≡ items_lost road.version road.trips (each f xs) k 0
    → Remains f k road a.path.items xs 0 a.losses (all_told a.losses ++ below a.path.items whole)
round_first f k road xs whole a is = ap (λ z. all_told a.losses ++ below a.path.items z) (sym is)

pub rounds_done : {X : Type 0} (f : X → Tree) (k : Kind) (road : Road) (p : List Step) (xs : List X) (i : ℕ) (e : List Loss) (whole : Entries) → length xs ≤ i → Remains f k road p xs i e whole → all_told e ≡ whole
unfolding lost
rounds_done f k road p xs i e whole h r = sym (append-nil (all_told e)) ∙ (ap (λ z. all_told e ++ below p z) (sym (at_drop_all (λ zs. items_lost road.version road.trips (each f zs) k i) xs i h)) ∙ r)
