-- A value of a kind.
use Rattle.std.proofs.Common.{◌≡◌, ℕ, suc, Bool, true, false, List, [], Some, None, Result, Ok, Err, refl, sym, ap, ◌∙◌, subst, ◌<◌, ◌≤◌, option_and_then, is_some, arith}
use Rattle.serde_json.specs.Data.{Data, Items, no_items, item, Members, unsigned, negative, float}
use Rattle.serde_json.specs.Data as json
use Rattle.serde_json.specs.Find.{as_number, as_u64, as_i64, as_str, as_bool, as_array, as_object}
use Rattle.cdx_models.specs.declared.bom.SpecVersion.{SpecVersion}
use Rattle.cdx_schema.specs.Depth.{Depth}
use Rattle.cdx_models.specs.declared.errors.JsonKind.TheVariants.{WrongKind, OutOfRange, TooDeep}
use Rattle.cdx_models.specs.Trees.{Name, Tree, number, text, boolean, items, fields, Trees, more, one, signer, signers}
use Rattle.cdx_schema.specs.Kinds.{Lists, Kind, a_number, a_text, a_boolean, a_version, a_list, a_record, a_reference, a_license_choice, a_license_identifier, a_tools, a_data, an_entry, a_signature, a_bill}
use Rattle.cdx_schema.specs.Faults.{to_item, JsonFault, under, here}
use Rattle.cdx_schema.specs.Results.{◌>>=◌}
use Rattle.cdx_schema.specs.Table.{list}
use Rattle.cdx_schema.specs.Depth.{inside, name_too_deep, is_too_deep}
use Rattle.cdx_schema.specs.JsonReading.{jread, seen, at_depth, record_denoted, array_items_read, number_read}
use Rattle.cdx_json.specs.ByRows.{json_kind, IsJsonListOf, list_read, by_rows, signature_in}
use Rattle.cdx_json.proofs.ByRowsLaws.{by_rows_are}
use Rattle.cdx_models.specs.declared.errors.JsonReadError.{JsonReadError}
use Rattle.cdx_models.specs.declared.errors.JsonReadError.TheVariants.{JsonElementReadError, BomError, Memory}
use Rattle.cdx_json.specs.Gives.{Fails, Gives, IsFaultAt, fault}
use Rattle.cdx_json.proofs.Rows.{fails_here}

pub text_ok : (x : Data) (s : List ℕ) (v : SpecVersion) (d : Depth) → Some s ≡ as_str x → jread x v a_text d ≡ Ok (text s)
unfolding jread
text_ok json.null s v d e = absurd cc
text_ok (json.boolean b) s v d e = absurd cc
text_ok (json.number n) s v d e = absurd cc
text_ok (json.string r) s v d e = let same : r ≡ s = cc in ap (λ q. Ok (text q)) same
text_ok (json.array ds) s v d e = absurd cc
text_ok (json.object ms) s v d e = absurd cc

text_wrong : (x : Data) (v : SpecVersion) (d : Depth) → None ≡ as_str x → jread x v a_text d ≡ here WrongKind
unfolding jread
text_wrong json.null v d e = refl
text_wrong (json.boolean b) v d e = refl
text_wrong (json.number n) v d e = refl
text_wrong (json.string r) v d e = absurd cc
text_wrong (json.array ds) v d e = refl
text_wrong (json.object ms) v d e = refl

pub text_err : (e : JsonReadError) (x : Data) (v : SpecVersion) (d : Depth) → None ≡ as_str x → IsFaultAt [] WrongKind e → Fails e (jread x v a_text d)
text_err e x v d is at = fails_here e WrongKind (jread x v a_text d) at (text_wrong x v d is)

pub boolean_ok : (x : Data) (b : Bool) (v : SpecVersion) (d : Depth) → Some b ≡ as_bool x → jread x v a_boolean d ≡ Ok (boolean b)
unfolding jread
boolean_ok json.null b v d e = absurd cc
boolean_ok (json.boolean a) b v d e = let same : a ≡ b = cc in ap (λ q. Ok (boolean q)) same
boolean_ok (json.number n) b v d e = absurd cc
boolean_ok (json.string r) b v d e = absurd cc
boolean_ok (json.array ds) b v d e = absurd cc
boolean_ok (json.object ms) b v d e = absurd cc

boolean_wrong : (x : Data) (v : SpecVersion) (d : Depth) → None ≡ as_bool x → jread x v a_boolean d ≡ here WrongKind
unfolding jread
boolean_wrong json.null v d e = refl
boolean_wrong (json.boolean a) v d e = absurd cc
boolean_wrong (json.number n) v d e = refl
boolean_wrong (json.string r) v d e = refl
boolean_wrong (json.array ds) v d e = refl
boolean_wrong (json.object ms) v d e = refl

pub boolean_err : (e : JsonReadError) (x : Data) (v : SpecVersion) (d : Depth) → None ≡ as_bool x → IsFaultAt [] WrongKind e → Fails e (jread x v a_boolean d)
boolean_err e x v d is at = fails_here e WrongKind (jread x v a_boolean d) at (boolean_wrong x v d is)

-- ---- references

reference_is : (x : Data) (v : SpecVersion) (d : Depth) → jread x v a_reference d ≡ jread x v a_text d
unfolding jread
reference_is json.null v d = refl
reference_is (json.boolean b) v d = refl
reference_is (json.number n) v d = refl
reference_is (json.string r) v d = refl
reference_is (json.array ds) v d = refl
reference_is (json.object ms) v d = refl

pub reference_ok : (x : Data) (s : List ℕ) (v : SpecVersion) (d : Depth) → Some s ≡ as_str x → jread x v a_reference d ≡ Ok (text s)
reference_ok x s v d e = reference_is x v d ∙ text_ok x s v d e

pub reference_err : (e : JsonReadError) (x : Data) (v : SpecVersion) (d : Depth) → None ≡ as_str x → IsFaultAt [] WrongKind e → Fails e (jread x v a_reference d)
reference_err e x v d is at = fails_here e WrongKind (jread x v a_reference d) at (reference_is x v d ∙ text_wrong x v d is)

-- ---- lists

plain_read : (x : Data) (k : Kind) (v : SpecVersion) (d : Depth) → jread x v k d ≡ jread x v (json_kind k) d
plain_read x a_reference v d = reference_is x v d
plain_read x a_text v d = refl
plain_read x a_boolean v d = refl
plain_read x a_number v d = refl
plain_read x a_version v d = refl
plain_read x (a_list l) v d = refl
plain_read x (a_record n) v d = refl
plain_read x a_license_choice v d = refl
plain_read x a_license_identifier v d = refl
plain_read x a_tools v d = refl
plain_read x a_data v d = refl
plain_read x an_entry v d = refl
plain_read x a_signature v d = refl
plain_read x a_bill v d = refl

alike_read : (x : Data) (k m : Kind) (v : SpecVersion) (d : Depth) → json_kind k ≡ json_kind m → jread x v k d ≡ jread x v m d
alike_read x k m v d e = plain_read x k v d ∙ ap (λ q. jread x v q d) e ∙ sym (plain_read x m v d)

alike_items : (xs : Items) (k m : Kind) (v : SpecVersion) (d : Depth) (n : ℕ) → json_kind k ≡ json_kind m → array_items_read xs v k d n ≡ array_items_read xs v m d n
unfolding jread
alike_items no_items k m v d n e = refl
alike_items (item x xs) k m v d n e =
    ap (λ r. under (to_item n) r >>= λ t. array_items_read xs v k d (suc n) >>= λ ts. Ok (more t ts)) (alike_read x k m v d e)
    ∙ ap (λ r. under (to_item n) (jread x v m d) >>= λ t. r >>= λ ts. Ok (more t ts)) (alike_items xs k m v d (suc n) e)

list_is : (x : Data) (ds : Items) (k : Kind) (l : Lists) (v : SpecVersion) (d : Depth) → IsJsonListOf k l → Some ds ≡ as_array x → jread x v (a_list l) d ≡ list_read ds v k d
unfolding jread
list_is json.null ds k l v d h e = absurd cc
list_is (json.boolean b) ds k l v d h e = absurd cc
list_is (json.number n) ds k l v d h e = absurd cc
list_is (json.string r) ds k l v d h e = absurd cc
list_is (json.array es) ds k l v d h e =
    let same : es ≡ ds = cc in ap (λ r. r >>= λ ts. Ok (items ts)) (alike_items es (list l).kind k v d 0 h) ∙ ap (λ q. list_read q v k d) same
list_is (json.object ms) ds k l v d h e = absurd cc

list_wrong : (x : Data) (l : Lists) (v : SpecVersion) (d : Depth) → None ≡ as_array x → jread x v (a_list l) d ≡ here WrongKind
unfolding jread
list_wrong json.null l v d e = refl
list_wrong (json.boolean b) l v d e = refl
list_wrong (json.number n) l v d e = refl
list_wrong (json.string r) l v d e = refl
list_wrong (json.array es) l v d e = absurd cc
list_wrong (json.object ms) l v d e = refl

pub list_err : (e : JsonReadError) (x : Data) (l : Lists) (v : SpecVersion) (d : Depth) → None ≡ as_array x → IsFaultAt [] WrongKind e → Fails e (jread x v (a_list l) d)
list_err e x l v d is at = fails_here e WrongKind (jread x v (a_list l) d) at (list_wrong x l v d is)

pub list_gives : {X : Type 0} (see : X → Tree) (r : Result X JsonReadError) (x : Data) (ds : Items) (k : Kind) (l : Lists) (v : SpecVersion) (d : Depth) → IsJsonListOf k l → Some ds ≡ as_array x → Gives see r (list_read ds v k d) → Gives see r (jread x v (a_list l) d)
list_gives see r x ds k l v d h is gives = subst (Gives see r) (sym (list_is x ds k l v d h is)) gives

-- ---- records

at_no_depth : (n : Name) (d : Depth) (r : Result Tree JsonFault) → name_too_deep n d ≡ false → at_depth (a_record n) d r ≡ r
at_no_depth n d r e = rw e refl

record_is : (x : Data) (ms : Members) (n : Name) (v : SpecVersion) (d : Depth) → name_too_deep n d ≡ false → inside n d ≡ d → Some ms ≡ as_object x → jread x v (a_record n) d ≡ record_denoted n (seen ms) v d
unfolding jread
record_is json.null ms n v d f i e = absurd cc
record_is (json.boolean b) ms n v d f i e = absurd cc
record_is (json.number k) ms n v d f i e = absurd cc
record_is (json.string s) ms n v d f i e = absurd cc
record_is (json.array ds) ms n v d f i e = absurd cc
record_is (json.object ls) ms n v d f i e =
    let same : ls ≡ ms = cc in at_no_depth n d _ f ∙ ap (record_denoted n (seen ls) v) i ∙ ap (λ q. record_denoted n (seen q) v d) same

record_wrong : (x : Data) (n : Name) (v : SpecVersion) (d : Depth) → name_too_deep n d ≡ false → None ≡ as_object x → jread x v (a_record n) d ≡ here WrongKind
unfolding jread
record_wrong json.null n v d f e = at_no_depth n d _ f
record_wrong (json.boolean b) n v d f e = at_no_depth n d _ f
record_wrong (json.number k) n v d f e = at_no_depth n d _ f
record_wrong (json.string s) n v d f e = at_no_depth n d _ f
record_wrong (json.array ds) n v d f e = at_no_depth n d _ f
record_wrong (json.object ls) n v d f e = absurd cc

pub record_err : (e : JsonReadError) (x : Data) (n : Name) (v : SpecVersion) (d : Depth) → name_too_deep n d ≡ false → None ≡ as_object x → IsFaultAt [] WrongKind e → Fails e (jread x v (a_record n) d)
record_err e x n v d f is at = fails_here e WrongKind (jread x v (a_record n) d) at (record_wrong x n v d f is)

pub record_gives : {X : Type 0} (see : X → Tree) (r : Result X JsonReadError) (x : Data) (ms : Members) (n : Name) (v : SpecVersion) (d : Depth) → name_too_deep n d ≡ false → inside n d ≡ d → Some ms ≡ as_object x → Gives see r (by_rows n (seen ms) v d) → Gives see r (jread x v (a_record n) d)
record_gives see r x ms n v d f i is h = subst (Gives see r) (by_rows_are n (seen ms) v d ∙ sym (record_is x ms n v d f i is)) h

-- ---- signatures

signers_is : (x : Data) (ds : Items) (v : SpecVersion) (d : Depth) → Some ds ≡ as_array x → jread x v a_signature d ≡ (array_items_read ds v (a_record signer) d 0 >>= λ ts. Ok (fields signers (one (items ts))))
unfolding jread list
signers_is json.null ds v d e = absurd cc
signers_is (json.boolean b) ds v d e = absurd cc
signers_is (json.number n) ds v d e = absurd cc
signers_is (json.string r) ds v d e = absurd cc
signers_is (json.array es) ds v d e = let same : es ≡ ds = cc in ap (λ q. array_items_read q v (a_record signer) d 0 >>= λ ts. Ok (fields signers (one (items ts)))) same
signers_is (json.object ms) ds v d e = absurd cc

pub signers_ok : (x : Data) (ds : Items) (t : Tree) (v : SpecVersion) (d : Depth) → Some ds ≡ as_array x → list_read ds v (a_record signer) d ≡ Ok t → jread x v a_signature d ≡ Ok (fields signers (one t))
signers_ok x ds t v d is h = signers_is x ds v d is ∙ by (array_items_read ds v (a_record signer) d 0) h
  where
    by : (rd : Result Trees JsonFault) → (rd >>= λ ts. Ok (items ts)) ≡ Ok t → (rd >>= λ ts. Ok (fields signers (one (items ts)))) ≡ Ok (fields signers (one t))
    by (Ok ts) h = let same : items ts ≡ t = cc in ap (λ u. Ok (fields signers (one u))) same
    by (Err e) h = absurd cc

pub signers_err : (e : JsonReadError) (x : Data) (ds : Items) (v : SpecVersion) (d : Depth) → Some ds ≡ as_array x → Fails e (list_read ds v (a_record signer) d) → Fails e (jread x v a_signature d)
signers_err e x ds v d is h = subst (Fails e) (sym (signers_is x ds v d is)) (by e (array_items_read ds v (a_record signer) d 0) h)
  where
    by : (e : JsonReadError) (rd : Result Trees JsonFault) → Fails e (rd >>= λ ts. Ok (items ts)) → Fails e (rd >>= λ ts. Ok (fields signers (one (items ts))))
    by (Memory m) rd h = tt
    by (BomError b) rd h = absurd h
    by (JsonElementReadError path kind) (Ok ts) h = absurd cc
    by (JsonElementReadError path kind) (Err f) h = let same : f ≡ fault path.0 kind = cc in ap Err same

signature_is : (x : Data) (ms : Members) (v : SpecVersion) (d : Depth) → Some ms ≡ as_object x → jread x v a_signature d ≡ signature_in (seen ms) v d
unfolding jread signature_in
signature_is json.null ms v d e = absurd cc
signature_is (json.boolean b) ms v d e = absurd cc
signature_is (json.number k) ms v d e = absurd cc
signature_is (json.string s) ms v d e = absurd cc
signature_is (json.array ds) ms v d e = absurd cc
signature_is (json.object ls) ms v d e = let same : ls ≡ ms = cc in ap (λ q. signature_in (seen q) v d) same

signature_wrong : (x : Data) (v : SpecVersion) (d : Depth) → None ≡ as_array x → None ≡ as_object x → jread x v a_signature d ≡ here WrongKind
unfolding jread
signature_wrong json.null v d a e = refl
signature_wrong (json.boolean b) v d a e = refl
signature_wrong (json.number k) v d a e = refl
signature_wrong (json.string s) v d a e = refl
signature_wrong (json.array ds) v d a e = absurd cc
signature_wrong (json.object ls) v d a e = absurd cc

pub signature_err : (e : JsonReadError) (x : Data) (v : SpecVersion) (d : Depth) → None ≡ as_array x → None ≡ as_object x → IsFaultAt [] WrongKind e → Fails e (jread x v a_signature d)
signature_err e x v d a is at = fails_here e WrongKind (jread x v a_signature d) at (signature_wrong x v d a is)

pub signature_gives : {X : Type 0} (see : X → Tree) (r : Result X JsonReadError) (x : Data) (ms : Members) (v : SpecVersion) (d : Depth) → Some ms ≡ as_object x → Gives see r (signature_in (seen ms) v d) → Gives see r (jread x v a_signature d)
signature_gives see r x ms v d is h = subst (Gives see r) (sym (signature_is x ms v d is)) h

-- ---- numbers

fits : (n : ℕ) → n < 4294967296 → number_read (unsigned n) ≡ Ok (number n)
fits n h = grind arith

too_large : (n : ℕ) → 4294967296 ≤ n → number_read (unsigned n) ≡ here OutOfRange
too_large n h = grind arith

pub number_ok : (x : Data) (n : ℕ) (v : SpecVersion) (d : Depth) → Some n ≡ option_and_then as_u64 (as_number x) → n < 4294967296 → jread x v a_number d ≡ Ok (number n)
unfolding jread
number_ok json.null n v d e h = absurd cc
number_ok (json.boolean b) n v d e h = absurd cc
number_ok (json.number (unsigned m)) n v d e h = let same : m ≡ n = cc in ap (λ q. number_read (unsigned q)) same ∙ fits n h
number_ok (json.number (negative z)) n v d e h = absurd cc
number_ok (json.number (float z)) n v d e h = absurd cc
number_ok (json.string r) n v d e h = absurd cc
number_ok (json.array ds) n v d e h = absurd cc
number_ok (json.object ms) n v d e h = absurd cc

large : (x : Data) (n : ℕ) (v : SpecVersion) (d : Depth) → Some n ≡ option_and_then as_u64 (as_number x) → 4294967296 ≤ n → jread x v a_number d ≡ here OutOfRange
unfolding jread
large json.null n v d e h = absurd cc
large (json.boolean b) n v d e h = absurd cc
large (json.number (unsigned m)) n v d e h = let same : m ≡ n = cc in ap (λ q. number_read (unsigned q)) same ∙ too_large n h
large (json.number (negative z)) n v d e h = absurd cc
large (json.number (float z)) n v d e h = absurd cc
large (json.string r) n v d e h = absurd cc
large (json.array ds) n v d e h = absurd cc
large (json.object ms) n v d e h = absurd cc

below_zero : (x : Data) (v : SpecVersion) (d : Depth) → None ≡ option_and_then as_u64 (as_number x) → is_some (option_and_then as_i64 (as_number x)) ≡ true → jread x v a_number d ≡ here OutOfRange
unfolding jread
below_zero json.null v d e h = absurd cc
below_zero (json.boolean b) v d e h = absurd cc
below_zero (json.number (unsigned m)) v d e h = absurd cc
below_zero (json.number (negative z)) v d e h = refl
below_zero (json.number (float z)) v d e h = absurd cc
below_zero (json.string r) v d e h = absurd cc
below_zero (json.array ds) v d e h = absurd cc
below_zero (json.object ms) v d e h = absurd cc

no_integer : (x : Data) (v : SpecVersion) (d : Depth) → None ≡ option_and_then as_u64 (as_number x) → is_some (option_and_then as_i64 (as_number x)) ≡ false → jread x v a_number d ≡ here WrongKind
unfolding jread
no_integer json.null v d e h = refl
no_integer (json.boolean b) v d e h = refl
no_integer (json.number (unsigned m)) v d e h = absurd cc
no_integer (json.number (negative z)) v d e h = absurd cc
no_integer (json.number (float z)) v d e h = refl
no_integer (json.string r) v d e h = refl
no_integer (json.array ds) v d e h = refl
no_integer (json.object ms) v d e h = refl

pub large_err : (e : JsonReadError) (x : Data) (n : ℕ) (v : SpecVersion) (d : Depth) → Some n ≡ option_and_then as_u64 (as_number x) → 4294967296 ≤ n → IsFaultAt [] OutOfRange e → Fails e (jread x v a_number d)
large_err e x n v d is h at = fails_here e OutOfRange (jread x v a_number d) at (large x n v d is h)

pub below_zero_err : (e : JsonReadError) (x : Data) (b : Bool) (v : SpecVersion) (d : Depth) → None ≡ option_and_then as_u64 (as_number x) → b ≡ is_some (option_and_then as_i64 (as_number x)) → b ≡ true → IsFaultAt [] OutOfRange e → Fails e (jread x v a_number d)
below_zero_err e x b v d is i t at = fails_here e OutOfRange (jread x v a_number d) at (below_zero x v d is (sym i ∙ t))

pub no_integer_err : (e : JsonReadError) (x : Data) (b : Bool) (v : SpecVersion) (d : Depth) → None ≡ option_and_then as_u64 (as_number x) → b ≡ is_some (option_and_then as_i64 (as_number x)) → b ≡ false → IsFaultAt [] WrongKind e → Fails e (jread x v a_number d)
no_integer_err e x b v d is i t at = fails_here e WrongKind (jread x v a_number d) at (no_integer x v d is (sym i ∙ t))

-- ---- records that count for a depth

at_too_deep : (k : Kind) (d : Depth) (r : Result Tree JsonFault) → is_too_deep k d ≡ true → at_depth k d r ≡ here TooDeep
at_too_deep k d r e = rw e refl

deep : (x : Data) (k : Kind) (v : SpecVersion) (d : Depth) → is_too_deep k d ≡ true → jread x v k d ≡ here TooDeep
unfolding jread
deep json.null k v d e = at_too_deep k d _ e
deep (json.boolean b) k v d e = at_too_deep k d _ e
deep (json.number n) k v d e = at_too_deep k d _ e
deep (json.string s) k v d e = at_too_deep k d _ e
deep (json.array ds) k v d e = at_too_deep k d _ e
deep (json.object ms) k v d e = at_too_deep k d _ e

pub deep_err : (e : JsonReadError) (x : Data) (n : Name) (v : SpecVersion) (d : Depth) → name_too_deep n d ≡ true → IsFaultAt [] TooDeep e → Fails e (jread x v (a_record n) d)
deep_err e x n v d h at = fails_here e TooDeep (jread x v (a_record n) d) at (deep x (a_record n) v d h)

deep_record_is : (x : Data) (ms : Members) (n : Name) (v : SpecVersion) (d : Depth) → name_too_deep n d ≡ false → Some ms ≡ as_object x → jread x v (a_record n) d ≡ record_denoted n (seen ms) v (inside n d)
unfolding jread
deep_record_is json.null ms n v d f e = absurd cc
deep_record_is (json.boolean b) ms n v d f e = absurd cc
deep_record_is (json.number k) ms n v d f e = absurd cc
deep_record_is (json.string s) ms n v d f e = absurd cc
deep_record_is (json.array ds) ms n v d f e = absurd cc
deep_record_is (json.object ls) ms n v d f e = let same : ls ≡ ms = cc in at_no_depth n d _ f ∙ ap (λ q. record_denoted n (seen q) v (inside n d)) same

pub deep_record_gives : {X : Type 0} (see : X → Tree) (r : Result X JsonReadError) (x : Data) (ms : Members) (n : Name) (v : SpecVersion) (d : Depth) → name_too_deep n d ≡ false → Some ms ≡ as_object x → Gives see r (by_rows n (seen ms) v (inside n d)) → Gives see r (jread x v (a_record n) d)
deep_record_gives see r x ms n v d f is h = subst (Gives see r) (by_rows_are n (seen ms) v (inside n d) ∙ sym (deep_record_is x ms n v d f is)) h
