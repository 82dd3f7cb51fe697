-- The items of a list.
use Rattle.std.proofs.Common.{◌≡◌, ℕ, List, [], ◌∷◌, ◌++◌, true, false, Result, refl, sym, ap, ◌∙◌, subst}
use Rattle.std.specs.Prelude.{if◌then◌else◌, ◌&&◌, OnOk, IfSome}
use Rattle.std.specs.Str.{bytes_eq}
use Rattle.cdx_models.specs.declared.bom.SpecVersion.{SpecVersion}
use Rattle.cdx_models.specs.declared.bom.SpecVersion.TheVariants.{V1_3, V1_4, V1_5}
use Rattle.cdx_models.specs.Versions.{knows}
use Rattle.cdx_models.specs.Trees.{Tree, Trees, one}
use Rattle.cdx_schema.specs.Kinds.{Kind, Lists}
use Rattle.cdx_schema.specs.Table.{list}
use Rattle.cdx_schema.specs.XmlReading.{Plan, Child, stored, items_plan, plan_of_list}
use Rattle.std.specs.declared.alloc.AllocError.{AllocError}
use Rattle.cdx_machine.proofs.Names.{push_put}
use Rattle.cdx_machine.specs.Records.{HasOneName, one_plan, items_slots}
use Rattle.cdx_machine.specs.Several.{at_position, found_from, Puts}
use Rattle.cdx_machine.specs.declared.frame.FoundChild.TheVariants.{At, Unknown}

known_all : (v : SpecVersion) → knows V1_3 v ≡ true
known_all V1_3 = refl
known_all V1_4 = refl
known_all V1_5 = refl

module _ (l : Lists) (k : Kind) (item_kind : k ≡ (list l).kind) (has_one : HasOneName k) where
  one_name : plan_of_list l ≡ items_plan l
  one_name = one_plan l k item_kind has_one

  pub item_found : (ts : Trees) (v : SpecVersion) (s : List ℕ) → bytes_eq s (list l).name ≡ true → At 0 ≡ found_from 0 (plan_of_list l).children ts v s
  item_found ts v s h =
      sym (ap (λ p. found_from 0 p.children ts v s) one_name ∙ (ap (λ b. if b && knows V1_3 v then At 0 else Unknown) h ∙ ap (λ b. if b then At 0 else Unknown) (known_all v)))

  pub item_unknown : (ts : Trees) (v : SpecVersion) (s : List ℕ) → bytes_eq s (list l).name ≡ false → Unknown ≡ found_from 0 (plan_of_list l).children ts v s
  item_unknown ts v s h = sym (ap (λ p. found_from 0 p.children ts v s) one_name ∙ ap (λ b. if b && knows V1_3 v then At 0 else Unknown) h)

  pub item_put : {X : Type 0} (f : X → Tree) (xs ys : List X) (x : X) (r : Result (Unit {0}) AllocError) → OnOk r (ys ≡ xs ++ x ∷ []) → OnOk r (Puts (plan_of_list l).children 0 (f x) (items_slots f xs) (items_slots f ys))
  item_put f xs ys x r h = subst (λ (p : Plan). OnOk r (IfSome (at_position p.children 0) (λ (row : Child). items_slots f ys ≡ stored row.place row.field (f x) (items_slots f xs)))) (sym one_name) (push_put f (λ t. one t) xs ys x r h)
