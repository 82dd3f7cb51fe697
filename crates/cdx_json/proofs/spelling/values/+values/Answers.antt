use Rattle.std.proofs.Common.{◌≡◌, ℕ, zero, suc, ◌+◌, ◌<◌, List, [], ◌∷◌, length, map, take, get_or, Bor, refl, sym, ap, ◌∙◌, add-one, arith}
use Rattle.std.proofs.lemmas.List.{take_all}
use Rattle.serde_json.specs.Data.{Data, Members, no_members, item, put}
use Rattle.serde_json.specs.View.{items_of}
use Rattle.cdx_json.specs.declared.spelling.Spelling.{Spelling}
use Rattle.cdx_json.specs.Spellings.{spelling_data, spelling_items, spelling_members, set_anew, items_anew, members_anew}
use Rattle.cdx_json.proofs.spelling.values.+values.Goals as goal

abbrev Named : Type 0
Named = Bor (List ℕ) × Spelling

-- the member is set last
abbrev anew_then : Named → Members → Members
anew_then m ms = put m.0.now (set_anew (spelling_data m.1)) ms

one_more : (ms : List Named) (i : ℕ) (m : Named) (others : Members) → i < length ms → m ≡ get_or ms i m
    → members_anew (spelling_members (take (suc i) ms)) others ≡ anew_then m (members_anew (spelling_members (take i ms)) others)
one_more [] i m others h is = absurd (omega arith)
one_more (x ∷ ms) zero m others h is = ap (λ (y : Named). anew_then y others) (sym is)
one_more (x ∷ ms) (suc i) m others h is = one_more ms i m (anew_then x others) (omega arith) is

each_anew : (ss : List Spelling) → items_of (map (λ s. set_anew (spelling_data s)) ss) ≡ items_anew (spelling_items ss)
each_anew [] = refl
each_anew (s ∷ ss) = ap (item (set_anew (spelling_data s))) (each_anew ss)

-- one member more in the map
put_more : (ms : List Named) (i : ℕ) (m : Named) (d : Data) (old new : Members) → i < length ms → m ≡ get_or ms i m → d ≡ set_anew (spelling_data m.1)
    → old ≡ members_anew (spelling_members (take i ms)) no_members → new ≡ put m.0.now d old → new ≡ members_anew (spelling_members (take (i + 1) ms)) no_members
put_more ms i m d old new h is value before put_in =
    put_in ∙ ap (λ x. put m.0.now x old) value ∙ ap (anew_then m) before ∙ sym (one_more ms i m no_members h is)
    ∙ ap (λ n. members_anew (spelling_members (take n ms)) no_members) (sym (add-one i))

pub map_of-loop-member-preserved : goal.map_of-loop-member-preserved
map_of-loop-member-preserved t c =
    let l = c.loop-member in
    put_more c.deref-member-items.result.now l.member-index c.member-item.result _ _ _ (omega arith) c.member-item.is c.in_ok-value_of.ensures l.invariant c.in_ok-put.ensures.ok

pub values_of-returns : goal.values_of-returns
values_of-returns t c =
    let ss = c.deref-item-items.result.now in
    ap items_of (c.loop-item.invariant ∙ ap (map (λ s. set_anew (spelling_data s))) (take_all c.loop-item.item-index ss (omega arith) ∙ c.deref-item-items.ensures.value))
    ∙ each_anew c.args.items.now.items
