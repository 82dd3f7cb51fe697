-- A list that is read item by item, where after a fault nothing more is read.
use Rattle.std.proofs.Common.{◌≡◌, ◌+◌, ◌<◌, [], ◌∷◌, ◌++◌, length, get_or, Option, Some, None, Ok, sym, ap, ◌∙◌, subst, length-append}
use Rattle.serde_json.specs.View.{view}
use Rattle.serde_json.specs.declared.value.Value.{Value}
use Rattle.cdx_models.specs.declared.errors.Step.TheVariants.{Item}
use Rattle.cdx_models.specs.declared.errors.JsonReadError.{JsonReadError}
use Rattle.cdx_models.specs.Trees.{items}
use Rattle.cdx_schema.specs.Results.{◌>>=◌}
use Rattle.cdx_schema.specs.JsonReading.{jread}
use Rattle.cdx_json.specs.Gives.{Fails, IsWithin}
use Rattle.cdx_json.proofs.Loops.{ReadingLoop, IsReadSoFar, one_further, goes_on, stops}

-- Each item before the next was read, or the list's fault was met.
abbrev pub IsReadTo : {A : Type 0} → ReadingLoop A → Option JsonReadError → Type 0
IsReadTo l None = IsReadSoFar l × (length l.done ≡ l.index)
IsReadTo l (Some e) = Fails e (l.whole >>= λ ts. Ok (items ts))

-- A fault that was met stays, however far the loop has come.
pub stays_at_fault : {A : Type 0} (l m : ReadingLoop A) (before after : Option JsonReadError) (e : JsonReadError) → m.whole ≡ l.whole → before ≡ Some e → after ≡ before → IsReadTo l before → IsReadTo m after
stays_at_fault l m before after e whole is same h =
    let met : Fails e (l.whole >>= λ ts. Ok (items ts)) = subst (IsReadTo l) is h in
    subst (IsReadTo m) (sym (same ∙ is)) (subst (λ w. Fails e (w >>= λ ts. Ok (items ts))) (sym whole) met)

pub reads_one : {A : Type 0} (l : ReadingLoop A) (v : Value) (x : A) (before after : Option JsonReadError) → l.index < length l.values → v ≡ get_or l.values l.index v → jread (view v) l.version l.kind l.depth ≡ Ok (l.tree x)
    → before ≡ None → after ≡ before → IsReadTo l before → IsReadTo (one_further l x) after
reads_one l v x before after h is read none same inv =
    let so_far : IsReadTo l None = subst (IsReadTo l) none inv in
    let longer : length (l.done ++ x ∷ []) ≡ l.index + 1 = length-append l.done (x ∷ []) ∙ ap (λ n. n + 1) so_far.1 in
    subst (IsReadTo (one_further l x)) (sym (same ∙ none)) (goes_on l v x h is read so_far.0, longer)

pub meets_fault : {A : Type 0} (l m : ReadingLoop A) (v : Value) (old new : JsonReadError) (before after : Option JsonReadError) → m.whole ≡ l.whole → l.index < length l.values → v ≡ get_or l.values l.index v
    → Fails old (jread (view v) l.version l.kind l.depth) → IsWithin (Item l.index) old new → before ≡ None → after ≡ Some new → IsReadTo l before → IsReadTo m after
meets_fault l m v old new before after whole h is fails at none met inv =
    let so_far : IsReadTo l None = subst (IsReadTo l) none inv in
    subst (IsReadTo m) (sym met) (subst (λ w. Fails new (w >>= λ ts. Ok (items ts))) (sym whole) (stops l v old new h is fails at so_far.0))
