-- Children by their names, and what their values become.
use Rattle.std.proofs.Common.{◌≡◌, ℕ, suc, ◌+◌, List, [], ◌∷◌, ◌++◌, Bool, true, false, Option, Some, None, Result, Ok, Err, refl, sym, ap, ◌∙◌, subst, arith}
use Rattle.std.specs.Prelude.{OnOk, if◌then◌else◌, ◌&&◌, unwrap_or}
use Rattle.std.specs.Str.{bytes_eq}
use Rattle.cdx_models.specs.Versions.{knows}
use Rattle.cdx_models.specs.declared.bom.SpecVersion.{SpecVersion}
use Rattle.cdx_models.specs.Trees.{Tree, Trees, field, present, list_tree}
use Rattle.cdx_schema.proofs.JsonBack.{same_itself}
use Rattle.std.specs.declared.alloc.AllocError.{AllocError}
use Rattle.cdx_leaf.specs.Trees.{collected}
use Rattle.cdx_leaf.proofs.ChildSteps.{pushed, collected_more}
use Rattle.cdx_schema.specs.XmlReading.{Child, appended, find_child, is_second}
use Rattle.cdx_machine.specs.Several.{at_position, found_from}
use Rattle.cdx_machine.specs.declared.frame.FoundChild.{FoundChild}
use Rattle.cdx_machine.specs.declared.frame.FoundChild.TheVariants.{At, Unknown, Second}

-- ---- names

-- The child of this position has the name, and may stand there.
pub record FindsAt (cs : List Child) (ts : Trees) (v : SpecVersion) (name : List ℕ) (i : ℕ) : Type 0 where
  pub row : Child
  pub is_at : at_position cs i ≡ Some row
  pub found : find_child v name cs ≡ Some row
  pub first_one : is_second row.place (field row.field ts) ≡ false

-- It is a second one where one may stand.
pub record FindsSecond (cs : List Child) (ts : Trees) (v : SpecVersion) (name : List ℕ) : Type 0 where
  pub row : Child
  pub found : find_child v name cs ≡ Some row
  pub second_one : is_second row.place (field row.field ts) ≡ true

module _ (ts : Trees) (v : SpecVersion) (s : List ℕ) where
  abbrev Is : ℕ → List Child → FoundChild → Type 0
  Is j cs (At i) = (k : ℕ) × (i ≡ j + k) × FindsAt cs ts v s k
  Is j cs Unknown = find_child v s cs ≡ None
  Is j cs Second = FindsSecond cs ts v s

  -- among those that follow a child of another name
  later : (c : Child) (cs : List Child) (j : ℕ) (r : FoundChild) → (bytes_eq s c.name && knows c.since v) ≡ false → Is (suc j) cs r → Is j (c ∷ cs) r
  later c cs j (At i) differ (k, at, h) = (suc k, at ∙ moved j k, record { row = h.row; is_at = h.is_at; found = ap (λ b. if b then Some c else find_child v s cs) differ ∙ h.found; first_one = h.first_one })
    where
      moved : (j k : ℕ) → suc j + k ≡ j + suc k
      moved j k = omega arith
  later c cs j Unknown differ h = ap (λ b. if b then Some c else find_child v s cs) differ ∙ h
  later c cs j Second differ h = record { row = h.row; found = ap (λ b. if b then Some c else find_child v s cs) differ ∙ h.found; second_one = h.second_one }

  is_found : (cs : List Child) (j : ℕ) → Is j cs (found_from j cs ts v s)
  is_found [] j = refl
  is_found (c ∷ cs) j = by (is_found cs (suc j)) (bytes_eq s c.name && knows c.since v) (is_second c.place (field c.field ts)) refl refl
    where
      none_more : (j : ℕ) → j ≡ j + 0
      none_more j = omega arith

      by : Is (suc j) cs (found_from (suc j) cs ts v s) → (b second : Bool) → (bytes_eq s c.name && knows c.since v) ≡ b → is_second c.place (field c.field ts) ≡ second → Is j (c ∷ cs) (if b then (if second then Second else At j) else found_from (suc j) cs ts v s)
      by others true true e f = record { row = c; found = ap (λ b. if b then Some c else find_child v s cs) e; second_one = f }
      by others true false e f = (0, none_more j, record { row = c; is_at = refl; found = ap (λ b. if b then Some c else find_child v s cs) e; first_one = f })
      by others false second e f = later c cs j (found_from (suc j) cs ts v s) e others

  pub found_at : (cs : List Child) (r : FoundChild) (i : ℕ) → r ≡ At i → r ≡ found_from 0 cs ts v s → FindsAt cs ts v s i
  found_at cs r i is h = by (subst (λ (r : FoundChild). Is 0 cs r) (sym h ∙ is) (is_found cs 0))
    where
      from_none : (k : ℕ) → 0 + k ≡ k
      from_none k = omega arith

      by : (k : ℕ) × (i ≡ 0 + k) × FindsAt cs ts v s k → FindsAt cs ts v s i
      by (k, at, x) = subst (λ (j : ℕ). FindsAt cs ts v s j) (sym (at ∙ from_none k)) x

  pub found_none : (cs : List Child) (r : FoundChild) → r ≡ Unknown → r ≡ found_from 0 cs ts v s → find_child v s cs ≡ None
  found_none cs r is h = subst (λ (r : FoundChild). Is 0 cs r) (sym h ∙ is) (is_found cs 0)

  pub found_second : (cs : List Child) (r : FoundChild) → r ≡ Second → r ≡ found_from 0 cs ts v s → FindsSecond cs ts v s
  found_second cs r is h = subst (λ (r : FoundChild). Is 0 cs r) (sym h ∙ is) (is_found cs 0)

-- the same name
pub same_name : (s t : List ℕ) → s ≡ t → bytes_eq s t ≡ true
same_name s t is = ap (λ x. bytes_eq x t) is ∙ same_itself t

-- ---- values

-- one item more in a list that may not be there yet
pub more_put : {X : Type 0} (f : X → Tree) (old new : Option (List X)) (x : X) → new ≡ Some (unwrap_or old [] ++ x ∷ []) → present (list_tree f) new ≡ appended (present (list_tree f) old) (f x)
more_put f old new x is = ap (λ o. present (list_tree f) o) is ∙ sym (pushed f old x)

-- one item more in a list, which stands somewhere among the fields
pub push_put : {X : Type 0} (f : X → Tree) (into : Tree → Trees) (xs ys : List X) (x : X) (r : Result (Unit {0}) AllocError) → OnOk r (ys ≡ xs ++ x ∷ []) → OnOk r (into (collected f ys) ≡ into (appended (collected f xs) (f x)))
push_put f into xs ys x (Err e) h = h
push_put f into xs ys x (Ok u) h = ap into (ap (λ o. collected f o) h ∙ sym (collected_more f xs x))
