-- Reading the items of an array one after the other, as a loop does.
use Rattle.std.proofs.Common.{◌≡◌, ℕ, suc, ◌+◌, ◌<◌, ◌≤◌, List, [], ◌∷◌, ◌++◌, length, drop, get_or, Result, Ok, Err, refl, sym, ap, ◌∙◌, arith}
use Rattle.std.proofs.lemmas.List.{at_drop_more, at_drop_all}
use Rattle.serde_json.specs.View.{view, items_view}
use Rattle.serde_json.specs.declared.value.Value.{Value}
use Rattle.cdx_models.specs.declared.bom.SpecVersion.{SpecVersion}
use Rattle.cdx_schema.specs.Depth.{Depth}
use Rattle.cdx_schema.specs.Depths.{depth_of}
use Rattle.cdx_models.specs.declared.errors.Step.TheVariants.{Item}
use Rattle.cdx_models.specs.Trees.{Tree, items, Trees, none, more, each, ◌⧺◌}
use Rattle.cdx_models.proofs.Lists.{trees-push}
use Rattle.cdx_schema.specs.Kinds.{Kind}
use Rattle.cdx_schema.specs.Results.{◌>>=◌}
use Rattle.cdx_schema.specs.Faults.{JsonFault, under}
use Rattle.cdx_schema.specs.JsonReading.{jread, array_items_read}
use Rattle.cdx_models.specs.declared.errors.JsonReadError.{JsonReadError}
use Rattle.cdx_models.specs.declared.errors.JsonReadError.TheVariants.{JsonElementReadError, BomError, Memory}
use Rattle.cdx_json.specs.declared.context.Context.{Context}
use Rattle.cdx_json.specs.Gives.{Fails, IsWithin, fault}
use Rattle.cdx_json.proofs.Rows.{within_fails}

-- what was read before, and what is still read
abbrev pub with_front : Trees → Result Trees JsonFault → Result Trees JsonFault
with_front front (Ok ts) = Ok (front ⧺ ts)
with_front front (Err e) = Err e

append_none : (ts : Trees) → ts ⧺ none ≡ ts
append_none none = refl
append_none (more t ts) = ap (more t) (append_none ts)

append_one : (ts : Trees) (t : Tree) (us : Trees) → (ts ⧺ more t none) ⧺ us ≡ ts ⧺ more t us
append_one none t us = refl
append_one (more s ts) t us = ap (more s) (append_one ts t us)

with_front-more : (front : Trees) (t : Tree) (r : Result Trees JsonFault) → with_front front (r >>= λ ts. Ok (more t ts)) ≡ with_front (front ⧺ more t none) r
with_front-more front t (Ok ts) = ap Ok (sym (append_one front t ts))
with_front-more front t (Err e) = refl

suc_is : (i : ℕ) → suc i ≡ i + 1
suc_is i = omega arith

-- one item more
items-step : (vs : List Value) (i : ℕ) (v : Value) (k : Kind) (w : SpecVersion) (d : Depth) → i < length vs → v ≡ get_or vs i v
    → array_items_read (items_view (drop i vs)) w k d i ≡ (under (Item i) (jread (view v) w k d) >>= λ t. array_items_read (items_view (drop (i + 1) vs)) w k d (i + 1) >>= λ ts. Ok (more t ts))
unfolding jread
items-step vs i v k w d h is =
    at_drop_more (λ ws. array_items_read (items_view ws) w k d i) vs i v h
    ∙ ap (λ y. under (Item i) (jread (view y) w k d) >>= λ t. array_items_read (items_view (drop (i + 1) vs)) w k d (suc i) >>= λ ts. Ok (more t ts)) (sym is)
    ∙ ap (λ j. under (Item i) (jread (view v) w k d) >>= λ t. array_items_read (items_view (drop (i + 1) vs)) w k d j >>= λ ts. Ok (more t ts)) (suc_is i)

-- A loop that reads an array's items as values of one kind: what it has read, and how far it has come.
pub record ReadingLoop (A : Type 0) : Type 0 where
  pub tree : A → Tree
  pub kind : Kind
  pub version : SpecVersion
  pub depth : Depth
  pub values : List Value
  pub index : ℕ
  pub done : List A
  pub whole : Result Trees JsonFault

-- the loop over these items, in a context
abbrev pub reading_items : {A : Type 0} → (A → Tree) → Kind → Context → List Value → List Value → List A → ℕ → ReadingLoop A
reading_items f k c all vs done i = record {
  tree = f;
  kind = k;
  version = c.version;
  depth = depth_of c.depth;
  values = vs;
  index = i;
  done = done;
  whole = array_items_read (items_view all) c.version k (depth_of c.depth) 0;
}

abbrev pub one_further : {A : Type 0} → ReadingLoop A → A → ReadingLoop A
one_further l x = record { tree = l.tree; kind = l.kind; version = l.version; depth = l.depth; values = l.values; index = l.index + 1; done = l.done ++ x ∷ []; whole = l.whole }

-- What was read, and what is read of the items that are left, come to the whole.
abbrev pub IsReadSoFar : {A : Type 0} → ReadingLoop A → Type 0
IsReadSoFar l = with_front (each l.tree l.done) (array_items_read (items_view (drop l.index l.values)) l.version l.kind l.depth l.index) ≡ l.whole

pub goes_on : {A : Type 0} (l : ReadingLoop A) (v : Value) (x : A) → l.index < length l.values → v ≡ get_or l.values l.index v → jread (view v) l.version l.kind l.depth ≡ Ok (l.tree x)
    → IsReadSoFar l → IsReadSoFar (one_further l x)
goes_on l v x h is read inv =
    let rest = array_items_read (items_view (drop (l.index + 1) l.values)) l.version l.kind l.depth (l.index + 1) in
    ap (λ ts. with_front ts rest) (trees-push l.tree l.done x) ∙ sym (with_front-more (each l.tree l.done) (l.tree x) rest)
    ∙ ap (with_front (each l.tree l.done)) (sym (items-step l.values l.index v l.kind l.version l.depth h is ∙ ap (λ r. under (Item l.index) r >>= λ t. rest >>= λ ts. Ok (more t ts)) read))
    ∙ inv

pub ends : {A : Type 0} (l : ReadingLoop A) → length l.values ≤ l.index → IsReadSoFar l → l.whole ≡ Ok (each l.tree l.done)
unfolding jread
ends l h inv =
    sym inv ∙ ap (with_front (each l.tree l.done)) (at_drop_all (λ ws. array_items_read (items_view ws) l.version l.kind l.depth l.index) l.values l.index h) ∙ ap Ok (append_none (each l.tree l.done))

-- an item's fault is the list's
pub stops : {A : Type 0} (l : ReadingLoop A) (v : Value) (old new : JsonReadError) → l.index < length l.values → v ≡ get_or l.values l.index v → Fails old (jread (view v) l.version l.kind l.depth)
    → IsWithin (Item l.index) old new → IsReadSoFar l → Fails new (l.whole >>= λ ts. Ok (items ts))
stops l v old (Memory m) h is fails at inv = tt
stops l v (Memory m) (BomError c) h is fails at inv = absurd at
stops l v (BomError b) (BomError c) h is fails at inv = absurd fails
stops l v (JsonElementReadError p q) (BomError c) h is fails at inv = absurd at
stops l v old (JsonElementReadError path kind) h is fails at inv =
    let failed : under (Item l.index) (jread (view v) l.version l.kind l.depth) ≡ Err (fault path.0 kind) = within_fails (Item l.index) old (JsonElementReadError path kind) (jread (view v) l.version l.kind l.depth) fails at in
    let all = ap (with_front (each l.tree l.done)) (items-step l.values l.index v l.kind l.version l.depth h is ∙ ap (λ r. r >>= λ t. array_items_read (items_view (drop (l.index + 1) l.values)) l.version l.kind l.depth (l.index + 1) >>= λ ts. Ok (more t ts)) failed) in
    ap (λ r. r >>= λ ts. Ok (items ts)) (sym inv ∙ all)
