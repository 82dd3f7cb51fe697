-- Set anew, the members of an object that stand in order stay as they are, and so stand those of each spelling.
use Rattle.std.proofs.Common.{◌≡◌, refl, sym, ap, ◌∙◌, subst, ℕ, List, [], ◌∷◌, Bool, true, false, if◌then◌else◌, Ordering, Less, Equal, Greater, IfOk, Result}
use Rattle.std.specs.Ordering.{nat_cmp, match_ordering, ordering_reverse}
use Rattle.std.specs.Cmp.Lexicographic.{slice_cmp}
use Rattle.std.proofs.lemmas.Cmp.{nat_list_cmp_total}
use Rattle.std.proofs.lemmas.Result.{IfOk-weaker}
use Rattle.serde_json.specs.Data.{Data, null, boolean, number, string, array, object, Items, no_items, item, Members, no_members, member, put}
use Rattle.serde_json.specs.View.{view}
use Rattle.serde_json.specs.declared.value.Value.{Value}
use Rattle.cdx_models.specs.declared.bom.SpecVersion.{SpecVersion}
use Rattle.cdx_models.specs.Trees as tree
use Rattle.cdx_models.specs.Trees.{Name, license, bill, Tree, Trees}
use Rattle.cdx_schema.specs.Kinds as kind
use Rattle.cdx_schema.specs.Kinds.{Kind, a_license_choice, Member, Row}
use Rattle.cdx_schema.specs.Table.{rows}
use Rattle.cdx_schema.specs.Held.{held_kind}
use Rattle.cdx_schema.specs.JsonSpelling.{jspell, items_spelled, members_spelled, own_members, is_spelled, set_member, heading, in_choice}
use Rattle.cdx_json.specs.declared.spelling.Spelling.{Spelling}
use Rattle.cdx_json.specs.Spellings.{spelling_data, set_anew, items_anew, members_anew}
use Rattle.cdx_json.specs.InOrder.{IsBefore, IsInOrder, AreItemsInOrder, AreInOrder}

-- ---- putting keeps the order

before_through : (k l : List ℕ) (ms : Members) → slice_cmp nat_cmp k l ≡ Less → IsBefore l ms → IsBefore k ms
before_through k l no_members h b = tt
before_through k l (member m d ms) h b = (nat_list_cmp_total.trans k l m h b.0, before_through k l ms h b.1)

turned : (k l : List ℕ) (o : Ordering) → slice_cmp nat_cmp k l ≡ o → slice_cmp nat_cmp l k ≡ ordering_reverse o
turned k l o h = nat_list_cmp_total.antisymm l k ∙ ap ordering_reverse h

before_put : (k l : List ℕ) (d : Data) (ms : Members) → slice_cmp nat_cmp k l ≡ Less → IsBefore k ms → IsBefore k (put l d ms)
before_put k l d no_members h b = (h, tt)
before_put k l d (member m e ms) h b = by (slice_cmp nat_cmp l m) (before_put k l d ms h b.1)
  where
    by : (o : Ordering) → IsBefore k (put l d ms) → IsBefore k (match_ordering o (member l d (member m e ms)) (member m d ms) (member m e (put l d ms)))
    by Less f = (h, b)
    by Equal f = b
    by Greater f = (b.0, f)

pub put_in_order : (k : List ℕ) (d : Data) (ms : Members) → IsInOrder d → AreInOrder ms → AreInOrder (put k d ms)
put_in_order k d no_members h hs = (tt, (h, tt))
put_in_order k d (member l e ms) h hs = by (slice_cmp nat_cmp k l) refl (put_in_order k d ms h hs.1.1)
  where
    by : (o : Ordering) → slice_cmp nat_cmp k l ≡ o → AreInOrder (put k d ms) → AreInOrder (match_ordering o (member k d (member l e ms)) (member l d ms) (member l e (put k d ms)))
    by Less s f = ((s, before_through k l ms s hs.0), (h, hs))
    by Equal s f = (hs.0, (h, hs.1.1))
    by Greater s f = (before_put l k d ms (turned k l Greater s) hs.0, (hs.1.0, f))

-- ---- members in order, set one after another

-- the one members, and then the others
abbrev joined : Members → Members → Members
joined no_members ns = ns
joined (member k d ms) ns = member k d (joined ms ns)

joined_none : (ms : Members) → joined ms no_members ≡ ms
joined_none no_members = refl
joined_none (member k d ms) = ap (member k d) (joined_none ms)

joined_twice : (ms : Members) (k : List ℕ) (d : Data) (ns : Members) → joined (joined ms (member k d no_members)) ns ≡ joined ms (member k d ns)
joined_twice no_members k d ns = refl
joined_twice (member l e ms) k d ns = ap (member l e) (joined_twice ms k d ns)

before_joined : (l : List ℕ) (ms : Members) (k : List ℕ) (d : Data) (ns : Members) → IsBefore l (joined ms (member k d ns)) → slice_cmp nat_cmp l k ≡ Less
before_joined l no_members k d ns b = b.0
before_joined l (member m e ms) k d ns b = before_joined l ms k d ns b.1

-- A name that is after those before it goes last.
put_last : (ms : Members) (k : List ℕ) (d : Data) (ns : Members) → AreInOrder (joined ms (member k d ns)) → put k d ms ≡ joined ms (member k d no_members)
put_last no_members k d ns h = refl
put_last (member l e ms) k d ns h = rw (turned l k Less (before_joined l ms k d ns h.0)) (ap (member l e) (put_last ms k d ns h.1.1))

in_order_after : (ms ns : Members) → AreInOrder (joined ms ns) → AreInOrder ns
in_order_after no_members ns h = h
in_order_after (member k d ms) ns h = in_order_after ms ns h.1.1

mutual
  pub anew_in_order : (d : Data) → IsInOrder d → set_anew d ≡ d
  anew_in_order null h = refl
  anew_in_order (boolean b) h = refl
  anew_in_order (number n) h = refl
  anew_in_order (string s) h = refl
  anew_in_order (array ds) h = ap array (items_in_order ds h)
  anew_in_order (object ms) h = ap object (members_in_order ms no_members h)

  items_in_order : (ds : Items) → AreItemsInOrder ds → items_anew ds ≡ ds
  items_in_order no_items h = refl
  items_in_order (item d ds) h = rw (anew_in_order d h.0, items_in_order ds h.1)

  members_in_order : (ms others : Members) → AreInOrder (joined others ms) → members_anew ms others ≡ joined others ms
  members_in_order no_members others h = sym (joined_none others)
  members_in_order (member k d ms) others h =
      let value : set_anew d ≡ d = anew_in_order d (in_order_after others (member k d ms) h).1.0 in
      let order : AreInOrder (joined (joined others (member k d no_members)) ms) = subst AreInOrder (sym (joined_twice others k d ms)) h in
      ap (λ e. members_anew ms (put k e others)) value
      ∙ (ap (members_anew ms) (put_last others k d ms h)
      ∙ (members_in_order ms (joined others (member k d no_members)) order
      ∙ joined_twice others k d ms))

-- ---- each spelling is in order

choice_in_order : (k : Kind) (n : Name) (ms : Members) → AreInOrder ms → IsInOrder (in_choice k n (object ms))
choice_in_order a_license_choice license ms h = (tt, (h, tt))
choice_in_order _ _ ms h = h

heading_in_order : (n : Name) → AreInOrder (heading n)
heading_in_order bill = (tt, (tt, tt))
heading_in_order _ = tt

set_in_order : (b : Bool) (m : Member) (x : Data) (own : Members → Members) (ms : Members) → IsInOrder x → AreInOrder ms → AreInOrder (own ms)
    → AreInOrder (if b then set_member m x own ms else ms)
set_in_order false m x own ms f h o = h
set_in_order true (kind.member q) x own ms f h o = put_in_order q x ms f h
set_in_order true kind.merged x own ms f h o = o

mutual
  unfolding jspell

  pub spelled_in_order : (t : Tree) (w : SpecVersion) (k : Kind) → IsInOrder (jspell t w k)
  spelled_in_order tree.absent w k = tt
  spelled_in_order (tree.text s) w k = tt
  spelled_in_order (tree.number n) w k = tt
  spelled_in_order (tree.boolean b) w k = tt
  spelled_in_order (tree.items ts) w k = items_spelled_in_order ts w (held_kind k)
  spelled_in_order (tree.fields n ts) w k = choice_in_order k n (members_spelled ts w (rows n) (heading n)) (rows_in_order ts w (rows n) (heading n) (heading_in_order n))

  items_spelled_in_order : (ts : Trees) (w : SpecVersion) (k : Kind) → AreItemsInOrder (items_spelled ts w k)
  items_spelled_in_order tree.none w k = tt
  items_spelled_in_order (tree.more t ts) w k = (spelled_in_order t w k, items_spelled_in_order ts w k)

  rows_in_order : (ts : Trees) (w : SpecVersion) (rs : List Row) (ms : Members) → AreInOrder ms → AreInOrder (members_spelled ts w rs ms)
  rows_in_order tree.none w rs ms o = o
  rows_in_order (tree.more t ts) w [] ms o = o
  rows_in_order (tree.more t ts) w (r ∷ rs) ms o = rows_in_order ts w rs (if is_spelled r t w then set_member r.json (jspell t w r.kind) (own_members t w) ms else ms)
      (set_in_order (is_spelled r t w) r.json (jspell t w r.kind) (own_members t w) ms (spelled_in_order t w r.kind) o (own_in_order t w ms o))

  own_in_order : (t : Tree) (w : SpecVersion) (ms : Members) → AreInOrder ms → AreInOrder (own_members t w ms)
  own_in_order (tree.fields n ts) w ms o = rows_in_order ts w (rows n) ms o
  own_in_order tree.absent w ms o = o
  own_in_order (tree.text s) w ms o = o
  own_in_order (tree.number n) w ms o = o
  own_in_order (tree.boolean b) w ms o = o
  own_in_order (tree.items ts) w ms o = o

-- Set anew, a spelling stays as it is.
pub spelling_anew : (t : Tree) (w : SpecVersion) (k : Kind) → set_anew (jspell t w k) ≡ jspell t w k
spelling_anew t w k = anew_in_order (jspell t w k) (spelled_in_order t w k)

pub value_spelled : {E : Type 0} (r : Result Value E) (s : Spelling) (t : Tree) (w : SpecVersion) (k : Kind) → spelling_data s ≡ jspell t w k → IfOk r (λ v. view v ≡ set_anew (spelling_data s)) → IfOk r (λ v. view v ≡ jspell t w k)
value_spelled r s t w k is h = IfOk-weaker r _ _ (λ v e. e ∙ ap set_anew is ∙ spelling_anew t w k) h
