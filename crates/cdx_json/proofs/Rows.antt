-- One row, as a reader of the code finds it.
use Rattle.std.proofs.Common.{◌≡◌, ℕ, Bool, true, false, if◌then◌else◌, List, [], ◌∷◌, Option, Some, None, is_some, option_map, Result, Ok, Err, Ordering, Less, Equal, Greater, refl, sym, ap, ◌∙◌, subst}
use Rattle.std.specs.Ordering.{nat_cmp, match_ordering}
use Rattle.std.specs.Cmp.Lexicographic.{slice_cmp}
use Rattle.serde_json.specs.Data.{Data, Members, no_members}
use Rattle.serde_json.specs.Data as json
use Rattle.serde_json.specs.Find.{get_member}
use Rattle.cdx_models.specs.declared.bom.SpecVersion.{SpecVersion}
use Rattle.cdx_models.specs.declared.bom.SpecVersion.TheVariants.{V1_3, V1_4, V1_5}
use Rattle.cdx_schema.specs.Depth.{Depth}
use Rattle.cdx_models.specs.declared.errors.Step.{Step}
use Rattle.cdx_models.specs.declared.errors.Step.TheVariants.{Member}
use Rattle.cdx_models.specs.declared.errors.JsonKind.{JsonKind}
use Rattle.cdx_models.specs.declared.errors.JsonKind.TheVariants.{Missing, WrongKind}
use Rattle.cdx_models.specs.Versions.{knows}
use Rattle.cdx_models.specs.Trees.{Tree, absent, items, none}
use Rattle.cdx_schema.specs.Kinds.{Kind, Need, optional, required, else_empty, required_first}
use Rattle.cdx_schema.specs.Results.{◌>>=◌}
use Rattle.cdx_schema.specs.Faults.{JsonFault, under, here}
use Rattle.cdx_schema.specs.JsonReading.{Object, Found, nothing, a_null, found, as_found, jread, seen}
use Rattle.cdx_json.specs.ByRows.{read_if_found, member_of, late_read}
use Rattle.cdx_models.specs.declared.errors.JsonReadError.{JsonReadError}
use Rattle.cdx_models.specs.declared.errors.JsonReadError.TheVariants.{JsonElementReadError, BomError, Memory}
use Rattle.cdx_json.specs.Gives.{Fails, Gives, IsFaultAt, IsWithin, fault, non_null, is_member_there, is_found}

abbrev pub as_seen : Option Data → Found
as_seen None = nothing
as_seen (Some x) = as_found x (jread x)

seen_at : (o : Ordering) (x : Data) (s : Found) (g : Option Data) → s ≡ as_seen g → match_ordering o s (as_found x (jread x)) s ≡ as_seen (match_ordering o g (Some x) g)
seen_at Less x s g h = h
seen_at Equal x s g h = refl
seen_at Greater x s g h = h

-- the definition's look-up is the code's
pub seen_is : (ms : Members) (q : List ℕ) → seen ms q ≡ as_seen (get_member q ms)
unfolding jread
seen_is no_members q = refl
seen_is (json.member l x ms) q = seen_at (slice_cmp nat_cmp q l) x (seen ms q) (get_member q ms) (seen_is ms q)

pub member_is : (k : List ℕ) (need : Need) (kind : Kind) (ms : Members) (v : SpecVersion) (d : Depth) (o : Option Data) → o ≡ get_member k ms → member_of (seen ms) k need kind v d ≡ under (Member k) (read_if_found (as_seen o) need kind v d)
unfolding member_of
member_is k need kind ms v d o e = ap (λ f. under (Member k) (read_if_found f need kind v d)) (seen_is ms k ∙ ap as_seen (sym e))

-- ---- errors

pub fails_here : {A : Type 0} (e : JsonReadError) (k : JsonKind) (r : Result A JsonFault) → IsFaultAt [] k e → r ≡ Err (fault [] k) → Fails e r
fails_here (Memory m) k r at is = tt
fails_here (BomError b) k r at is = absurd at
fails_here (JsonElementReadError path kind) k r at is = is ∙ rw (at.0, at.1) refl

pub within_fails : {A : Type 0} (s : Step) (old new : JsonReadError) (r : Result A JsonFault) → Fails old r → IsWithin s old new → Fails new (under s r)
within_fails s old (Memory m) r h w = tt
within_fails s (Memory m) (BomError c) r h w = absurd w
within_fails s (BomError b) new r h w = absurd h
within_fails s (JsonElementReadError p k) (BomError c) r h w = absurd w
within_fails s (Memory m) (JsonElementReadError path kind) r h w = absurd w
within_fails s (JsonElementReadError p k) (JsonElementReadError path kind) r h w = ap (under s) h ∙ rw (w.0, w.1) refl

-- ---- a member that is there and not null

live : (need : Need) (kind : Kind) (v : SpecVersion) (d : Depth) (o : Option Data) (x : Data) → Some x ≡ non_null o → read_if_found (as_seen o) need kind v d ≡ jread x v kind d
live need kind v d None x e = absurd cc
live need kind v d (Some json.null) x e = absurd cc
live need kind v d (Some (json.boolean b)) x e = let same : json.boolean b ≡ x = cc in ap (λ y. jread y v kind d) same
live need kind v d (Some (json.number n)) x e = let same : json.number n ≡ x = cc in ap (λ y. jread y v kind d) same
live need kind v d (Some (json.string s)) x e = let same : json.string s ≡ x = cc in ap (λ y. jread y v kind d) same
live need kind v d (Some (json.array xs)) x e = let same : json.array xs ≡ x = cc in ap (λ y. jread y v kind d) same
live need kind v d (Some (json.object ms)) x e = let same : json.object ms ≡ x = cc in ap (λ y. jread y v kind d) same

pub member_live : (k : List ℕ) (need : Need) (kind : Kind) (ms : Members) (v : SpecVersion) (d : Depth) (x : Data) → Some x ≡ non_null (get_member k ms) → member_of (seen ms) k need kind v d ≡ under (Member k) (jread x v kind d)
member_live k need kind ms v d x is = member_is k need kind ms v d (get_member k ms) refl ∙ ap (under (Member k)) (live need kind v d (get_member k ms) x is)

pub live_ok : (k : List ℕ) (need : Need) (kind : Kind) (ms : Members) (v : SpecVersion) (d : Depth) (x : Data) (t : Tree) → Some x ≡ non_null (get_member k ms) → jread x v kind d ≡ Ok t → member_of (seen ms) k need kind v d ≡ Ok t
live_ok k need kind ms v d x t is e = member_live k need kind ms v d x is ∙ ap (under (Member k)) e

pub live_err : (old new : JsonReadError) (k : List ℕ) (need : Need) (kind : Kind) (ms : Members) (v : SpecVersion) (d : Depth) (x : Data) → Some x ≡ non_null (get_member k ms) → Fails old (jread x v kind d) → IsWithin (Member k) old new → Fails new (member_of (seen ms) k need kind v d)
live_err old new k need kind ms v d x is h w =
    subst (Fails new) (sym (member_live k need kind ms v d x is)) (within_fails (Member k) old new (jread x v kind d) h w)

-- ---- a member that is not there, or null

pub must_none : (e : JsonReadError) (k : List ℕ) (kind : Kind) (ms : Members) (v : SpecVersion) (d : Depth) → None ≡ get_member k ms → IsFaultAt (Member k ∷ []) Missing e → Fails e (member_of (seen ms) k required kind v d)
must_none (Memory m) k kind ms v d is at = tt
must_none (BomError b) k kind ms v d is at = absurd at
must_none (JsonElementReadError path what) k kind ms v d is at = member_is k required kind ms v d None is ∙ rw (at.0, at.1) refl

null_found : (need : Need) (kind : Kind) (v : SpecVersion) (d : Depth) (x : Data) → None ≡ non_null (Some x) → as_seen (Some x) ≡ a_null
null_found need kind v d json.null e = refl
null_found need kind v d (json.boolean b) e = absurd cc
null_found need kind v d (json.number n) e = absurd cc
null_found need kind v d (json.string s) e = absurd cc
null_found need kind v d (json.array xs) e = absurd cc
null_found need kind v d (json.object ms) e = absurd cc

-- a member that is null
pub member_null : (k : List ℕ) (need : Need) (kind : Kind) (ms : Members) (v : SpecVersion) (d : Depth) (x : Data) → Some x ≡ get_member k ms → None ≡ non_null (get_member k ms) → member_of (seen ms) k need kind v d ≡ under (Member k) (read_if_found a_null need kind v d)
member_null k need kind ms v d x is dead =
    member_is k need kind ms v d (Some x) is ∙ ap (λ f. under (Member k) (read_if_found f need kind v d)) (null_found need kind v d x (dead ∙ ap non_null (sym is)))

pub must_null : (old new : JsonReadError) (k : List ℕ) (kind : Kind) (ms : Members) (v : SpecVersion) (d : Depth) (x : Data) → Some x ≡ get_member k ms → None ≡ non_null (get_member k ms) → IsFaultAt [] WrongKind old → IsWithin (Member k) old new → Fails new (member_of (seen ms) k required kind v d)
must_null old new k kind ms v d x is dead at w =
    subst (Fails new) (sym (member_null k required kind ms v d x is dead)) (within_fails (Member k) old new (here WrongKind) (fails_here old WrongKind (here {A = Tree} WrongKind) at refl) w)

may_seen : (k : List ℕ) (kind : Kind) (v : SpecVersion) (d : Depth) (o : Option Data) → None ≡ non_null o → under (Member k) (read_if_found (as_seen o) optional kind v d) ≡ Ok absent
may_seen k kind v d None e = refl
may_seen k kind v d (Some x) e = ap (λ f. under (Member k) (read_if_found f optional kind v d)) (null_found optional kind v d x e)

pub may_none : (k : List ℕ) (kind : Kind) (ms : Members) (v : SpecVersion) (d : Depth) → None ≡ non_null (get_member k ms) → member_of (seen ms) k optional kind v d ≡ Ok absent
may_none k kind ms v d e = member_is k optional kind ms v d (get_member k ms) refl ∙ may_seen k kind v d (get_member k ms) e

pub fails_then : {A B : Type 0} (f : A → Result B JsonFault) (e : JsonReadError) (r : Result A JsonFault) → Fails e r → Fails e (r >>= f)
fails_then f (Memory m) r h = tt
fails_then f (BomError b) r h = absurd h
fails_then f (JsonElementReadError path kind) r h = ap (λ q. q >>= f) h

-- ---- a row that may not be null

pub no_null_list : (old new : JsonReadError) (k : List ℕ) (kind : Kind) (ms : Members) (v : SpecVersion) (d : Depth) (x : Data) → Some x ≡ get_member k ms → None ≡ non_null (get_member k ms) → IsFaultAt [] WrongKind old → IsWithin (Member k) old new → Fails new (member_of (seen ms) k else_empty kind v d)
no_null_list old new k kind ms v d x is dead at w =
    subst (Fails new) (sym (member_null k else_empty kind ms v d x is dead)) (within_fails (Member k) old new (here WrongKind) (fails_here old WrongKind (here {A = Tree} WrongKind) at refl) w)

pub left_out_list : (k : List ℕ) (kind : Kind) (ms : Members) (v : SpecVersion) (d : Depth) → None ≡ get_member k ms → member_of (seen ms) k else_empty kind v d ≡ Ok (items none)
left_out_list k kind ms v d is = member_is k else_empty kind ms v d None is

-- ---- a row that only the first version requires

first_1_3 : (f : Found) (kind : Kind) (d : Depth) → read_if_found f required_first kind V1_3 d ≡ read_if_found f required kind V1_3 d
first_1_3 nothing kind d = refl
first_1_3 a_null kind d = refl
first_1_3 (found read) kind d = refl

first_1_4 : (f : Found) (kind : Kind) (d : Depth) → read_if_found f required_first kind V1_4 d ≡ read_if_found f optional kind V1_4 d
first_1_4 nothing kind d = refl
first_1_4 a_null kind d = refl
first_1_4 (found read) kind d = refl

first_1_5 : (f : Found) (kind : Kind) (d : Depth) → read_if_found f required_first kind V1_5 d ≡ read_if_found f optional kind V1_5 d
first_1_5 nothing kind d = refl
first_1_5 a_null kind d = refl
first_1_5 (found read) kind d = refl

pub first_required : (o : Object) (k : List ℕ) (kind : Kind) (d : Depth) → member_of o k required_first kind V1_3 d ≡ member_of o k required kind V1_3 d
unfolding member_of
first_required o k kind d = ap (under (Member k)) (first_1_3 (o k) kind d)

pub first_optional_4 : (o : Object) (k : List ℕ) (kind : Kind) (d : Depth) → member_of o k required_first kind V1_4 d ≡ member_of o k optional kind V1_4 d
unfolding member_of
first_optional_4 o k kind d = ap (under (Member k)) (first_1_4 (o k) kind d)

pub first_optional_5 : (o : Object) (k : List ℕ) (kind : Kind) (d : Depth) → member_of o k required_first kind V1_5 d ≡ member_of o k optional kind V1_5 d
unfolding member_of
first_optional_5 o k kind d = ap (under (Member k)) (first_1_5 (o k) kind d)

pub ruleset first_rules = (first_required, first_optional_4, first_optional_5)

-- ---- whether something stands there

pub stands_is : (ms : Members) (k : List ℕ) → is_some (get_member k ms) ≡ is_member_there (seen ms k)
stands_is ms k = by (get_member k ms) ∙ ap is_member_there (sym (seen_is ms k))
  where
    by : (o : Option Data) → is_some o ≡ is_member_there (as_seen o)
    by None = refl
    by (Some json.null) = refl
    by (Some (json.boolean b)) = refl
    by (Some (json.number n)) = refl
    by (Some (json.string s)) = refl
    by (Some (json.array xs)) = refl
    by (Some (json.object ms)) = refl

pub found_is : (ms : Members) (k : List ℕ) → is_some (non_null (get_member k ms)) ≡ is_found (seen ms k)
found_is ms k = by (get_member k ms) ∙ ap is_found (sym (seen_is ms k))
  where
    by : (o : Option Data) → is_some (non_null o) ≡ is_found (as_seen o)
    by None = refl
    by (Some json.null) = refl
    by (Some (json.boolean b)) = refl
    by (Some (json.number n)) = refl
    by (Some (json.string s)) = refl
    by (Some (json.array xs)) = refl
    by (Some (json.object ms)) = refl

pub some_of : {A B : Type 0} (f : A → B) (m : Option A) → is_some m ≡ is_some (option_map f m)
some_of f None = refl
some_of f (Some x) = refl

-- ---- a row that is known from a version on

pub late_gives : {X : Type 0} (see : X → Tree) (r : Result X JsonReadError) (s v : SpecVersion) (b : Bool) (x : Result Tree JsonFault) → b ≡ knows s v → b ≡ true → Gives see r x → Gives see r (late_read s v x)
unfolding late_read
late_gives see r s v b x is e h = subst (Gives see r) (ap (λ c. if c then x else Ok absent) (sym (sym is ∙ e))) h

pub late_absent : (s v : SpecVersion) (b : Bool) (x : Result Tree JsonFault) → b ≡ knows s v → b ≡ false → late_read s v x ≡ Ok absent
unfolding late_read
late_absent s v b x is e = ap (λ c. if c then x else Ok absent) (sym is ∙ e)
