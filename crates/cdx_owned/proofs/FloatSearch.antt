-- The search for a floating-point number, one part of a value after the other.
use Rattle.std.proofs.Common.{◌≡◌, ℕ, suc, ◌+◌, ◌<◌, ◌≤◌, Bool, true, false, if◌then◌else◌, List, [], ◌∷◌, length, drop, get_or, Option, Some, None, Ok, string_bytes, bytes_eq, refl, sym, ap, ◌∙◌, subst, arith}
use Rattle.std.proofs.lemmas.List.{at_drop_more, at_drop_all}
use Rattle.serde_json.specs.Data.{Num, unsigned, negative, float, Data, number, Members, no_members, member}
use Rattle.serde_json.specs.Find.{is_float as is_float_number, get_member}
use Rattle.serde_json.specs.View.{view, items_view, members_view}
use Rattle.serde_json.specs.declared.value.Value.{Value}
use Rattle.serde_json.proofs.Views.{Entry}
use Rattle.cdx_models.specs.declared.errors.Step.{Step}
use Rattle.cdx_models.specs.declared.errors.Step.TheVariants.{Member, Item}
use Rattle.cdx_models.specs.declared.errors.JsonKind.TheVariants.{Float}
use Rattle.cdx_models.specs.declared.errors.JsonReadError.{JsonReadError}
use Rattle.cdx_models.specs.declared.errors.JsonReadError.TheVariants.{JsonElementReadError, BomError, Memory}
use Rattle.cdx_schema.specs.Faults.{under}
use Rattle.cdx_schema.specs.JsonReading.{first_float, float_of_items, float_of_members, or_else, behind, float_in}
use Rattle.cdx_json.specs.Gives.{Fails, IsFaultAt, IsWithin}
use Rattle.cdx_json.proofs.Rows.{fails_here, within_fails}
use Rattle.cdx_owned.specs.Floats.{unless_float, float_under, float_before}
use Rattle.cdx_owned.specs.Without.{without}
use Rattle.cdx_owned.proofs.Others.{found_here, found_later, same_name}

suc_is : (i : ℕ) → suc i ≡ i + 1
suc_is i = omega arith

-- ---- a part's answer, seen from the value around it

within : (s : Step) (o : Option (List Step)) → under s (unless_float o) ≡ unless_float (behind s o)
within s None = refl
within s (Some p) = refl

pub within_free : (s : Step) (o : Option (List Step)) → unless_float o ≡ Ok tt → unless_float (behind s o) ≡ Ok tt
within_free s o e = sym (within s o) ∙ ap (under s) e

pub within_float : (old new : JsonReadError) (s : Step) (o : Option (List Step)) → Fails old (unless_float o) → IsWithin s old new → Fails new (unless_float (behind s o))
within_float old new s o h w = subst (Fails new) (within s o) (within_fails s old new (unless_float o) h w)

-- ---- one part, and those behind it

first_fails : (e : JsonReadError) (o rest : Option (List Step)) → Fails e (unless_float o) → Fails e (unless_float (or_else o rest))
first_fails (Memory m) o rest h = tt
first_fails (BomError b) o rest h = absurd h
first_fails (JsonElementReadError path kind) None rest h = absurd cc
first_fails (JsonElementReadError path kind) (Some p) rest h = h

pub free : (o : Option (List Step)) → unless_float o ≡ Ok tt → o ≡ None
free None e = refl
free (Some p) e = absurd cc

passed : (o rest : Option (List Step)) → unless_float o ≡ Ok tt → or_else o rest ≡ rest
passed o rest e = ap (λ q. or_else q rest) (free o e)

-- ---- numbers

is_free : (n : Num) → is_float_number n ≡ false → float_in n ≡ None
is_free (unsigned n) e = refl
is_free (negative z) e = refl
is_free (float x) e = absurd cc

is_one : (n : Num) → is_float_number n ≡ true → float_in n ≡ Some []
is_one (unsigned n) e = absurd cc
is_one (negative z) e = absurd cc
is_one (float x) e = refl

pub number_free : (n : Num) (b : Bool) → b ≡ is_float_number n → b ≡ false → unless_float (first_float (number n)) ≡ Ok tt
unfolding first_float
number_free n b is e = ap unless_float (is_free n (sym is ∙ e))

pub number_float : (e : JsonReadError) (n : Num) (b : Bool) → b ≡ is_float_number n → b ≡ true → IsFaultAt [] Float e → Fails e (unless_float (first_float (number n)))
unfolding first_float
number_float e n b is t at = fails_here e Float (unless_float (float_in n)) at (ap unless_float (is_one n (sym is ∙ t)))

-- ---- the items of an array

item_step : (vs : List Value) (i : ℕ) (v : Value) → i < length vs → v ≡ get_or vs i v
    → float_of_items i (items_view (drop i vs)) ≡ or_else (behind (Item i) (first_float (view v))) (float_of_items (i + 1) (items_view (drop (i + 1) vs)))
unfolding first_float
item_step vs i v h is =
    at_drop_more (λ ws. float_of_items i (items_view ws)) vs i v h
    ∙ ap (λ y. or_else (behind (Item i) (first_float (view y))) (float_of_items (suc i) (items_view (drop (i + 1) vs)))) (sym is)
    ∙ ap (λ j. or_else (behind (Item i) (first_float (view v))) (float_of_items j (items_view (drop (i + 1) vs)))) (suc_is i)

pub items_go : (vs : List Value) (i : ℕ) (v : Value) (whole : Option (List Step)) → i < length vs → v ≡ get_or vs i v → unless_float (behind (Item i) (first_float (view v))) ≡ Ok tt
    → float_of_items i (items_view (drop i vs)) ≡ whole → float_of_items (i + 1) (items_view (drop (i + 1) vs)) ≡ whole
items_go vs i v whole h is none inv = sym (item_step vs i v h is ∙ passed (behind (Item i) (first_float (view v))) _ none) ∙ inv

pub items_stop : (vs : List Value) (i : ℕ) (v : Value) (whole : Option (List Step)) (e : JsonReadError) → i < length vs → v ≡ get_or vs i v → Fails e (unless_float (behind (Item i) (first_float (view v))))
    → float_of_items i (items_view (drop i vs)) ≡ whole → Fails e (unless_float whole)
items_stop vs i v whole e h is fails inv = subst (λ o. Fails e (unless_float o)) (sym (item_step vs i v h is) ∙ inv) (first_fails e (behind (Item i) (first_float (view v))) _ fails)

pub items_end : (vs : List Value) (i : ℕ) (whole : Option (List Step)) → length vs ≤ i → float_of_items i (items_view (drop i vs)) ≡ whole → unless_float whole ≡ Ok tt
unfolding first_float
items_end vs i whole h inv = ap unless_float (sym inv ∙ at_drop_all (λ ws. float_of_items i (items_view ws)) vs i h)

-- ---- the members of an object

pub members_go : (e : Entry) (left : List Entry) (whole : Option (List Step)) → unless_float (behind (Member (string_bytes e.0)) (first_float (view e.1))) ≡ Ok tt → float_of_members (members_view (e ∷ left)) ≡ whole
    → float_of_members (members_view left) ≡ whole
unfolding first_float
members_go e left whole none inv = sym (passed (behind (Member (string_bytes e.0)) (first_float (view e.1))) _ none) ∙ inv

pub members_stop : (e : Entry) (left : List Entry) (whole : Option (List Step)) (error : JsonReadError) → Fails error (unless_float (behind (Member (string_bytes e.0)) (first_float (view e.1)))) → float_of_members (members_view (e ∷ left)) ≡ whole
    → Fails error (unless_float whole)
unfolding first_float
members_stop e left whole error fails inv = subst (λ o. Fails error (unless_float o)) inv (first_fails error (behind (Member (string_bytes e.0)) (first_float (view e.1))) _ fails)

pub members_end : (left : List Entry) (whole : Option (List Step)) → left ≡ [] → float_of_members (members_view left) ≡ whole → unless_float whole ≡ Ok tt
unfolding first_float
members_end left whole e inv = ap unless_float (sym inv ∙ ap (λ es. float_of_members (members_view es)) e)

-- ---- an object in three parts: the members before one, that one, and the others

first_of_before : (name : List ℕ) (error : JsonReadError) (l : List ℕ) (x : Data) (ms : Members) (b : Bool) → bytes_eq l name ≡ b → (Fails error (unless_float (float_before name ms)) → Fails error (unless_float (float_of_members ms)))
    → Fails error (unless_float (if b then None else or_else (behind (Member l) (first_float x)) (float_before name ms))) → Fails error (unless_float (or_else (behind (Member l) (first_float x)) (float_of_members ms)))
first_of_before name error l x ms true is further h = absurd_or error _ h
  where
    absurd_or : (error : JsonReadError) (o : Option (List Step)) → Fails error (unless_float None) → Fails error (unless_float o)
    absurd_or (Memory m) o h = tt
    absurd_or (BomError b) o h = absurd h
    absurd_or (JsonElementReadError path kind) o h = absurd cc
first_of_before name error l x ms false is further h = or_later error (behind (Member l) (first_float x)) (float_before name ms) (float_of_members ms) further h
  where
    or_later : (error : JsonReadError) (o p q : Option (List Step)) → (Fails error (unless_float p) → Fails error (unless_float q)) → Fails error (unless_float (or_else o p)) → Fails error (unless_float (or_else o q))
    or_later error None p q further h = further h
    or_later error (Some s) p q further h = h

-- A float before a member is the object's.
pub before_fails : (name : List ℕ) (error : JsonReadError) (ms : Members) → Fails error (unless_float (float_before name ms)) → Fails error (unless_float (float_of_members ms))
unfolding first_float
before_fails name error no_members h = h
before_fails name error (member l x ms) h = first_of_before name error l x ms (bytes_eq l name) refl (before_fails name error ms) h

both_free : (o p : Option (List Step)) → or_else o p ≡ None → (o ≡ None) × (p ≡ None)
both_free None p e = (refl, e)
both_free (Some s) p e = absurd cc

apart_at : (name l : List ℕ) (x : Data) (ms : Members) (b : Bool) → bytes_eq l name ≡ b
    → (float_before name ms ≡ None → float_of_members ms ≡ or_else (float_under name (get_member name ms)) (float_of_members (without name ms)))
    → (if b then None else or_else (behind (Member l) (first_float x)) (float_before name ms)) ≡ None
    → or_else (behind (Member l) (first_float x)) (float_of_members ms) ≡ or_else (float_under name (get_member name (member l x ms))) (float_of_members (if b then ms else member l x (without name ms)))
unfolding first_float
apart_at name l x ms true is further none = rw (found_here name l x ms is) (rw (same_name name l is) refl)
apart_at name l x ms false is further none =
    let two = both_free (behind (Member l) (first_float x)) (float_before name ms) none in
    rw (found_later name l x ms is, two.0) (further two.1)

-- Where no member before it has a float, the first float is that of the member, and else that of the others.
floats_apart : (name : List ℕ) (ms : Members) → float_before name ms ≡ None → float_of_members ms ≡ or_else (float_under name (get_member name ms)) (float_of_members (without name ms))
unfolding first_float
floats_apart name no_members none = refl
floats_apart name (member l x ms) none = apart_at name l x ms (bytes_eq l name) refl (floats_apart name ms) none

pub under_fails : (name : List ℕ) (error : JsonReadError) (ms : Members) → unless_float (float_before name ms) ≡ Ok tt → Fails error (unless_float (float_under name (get_member name ms))) → Fails error (unless_float (float_of_members ms))
under_fails name error ms before h =
    subst (λ o. Fails error (unless_float o)) (sym (floats_apart name ms (free (float_before name ms) before))) (first_fails error (float_under name (get_member name ms)) (float_of_members (without name ms)) h)

-- Where neither has one, the search among the others is that of the object.
pub others_left : (name : List ℕ) (ms : Members) → unless_float (float_before name ms) ≡ Ok tt → unless_float (float_under name (get_member name ms)) ≡ Ok tt → float_of_members ms ≡ float_of_members (without name ms)
others_left name ms before here = floats_apart name ms (free (float_before name ms) before) ∙ passed (float_under name (get_member name ms)) (float_of_members (without name ms)) here
