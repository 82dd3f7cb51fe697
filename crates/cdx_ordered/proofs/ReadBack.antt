-- Values whose members stand in order are read from their text as they are.
use Rattle.std.proofs.Common.{◌≡◌, refl, sym, ap, ◌∙◌, subst, ℕ, suc, ◌≤◌, List, [], Option, Some, option_map, option_and_then, Ordering, Less, Equal, Greater, append-nil, true≢false, arith}
use Rattle.std.specs.Ordering.{nat_cmp, match_ordering, ordering_reverse}
use Rattle.std.specs.Cmp.Lexicographic.{slice_cmp}
use Rattle.std.proofs.lemmas.Cmp.{nat_list_cmp_total}
use Rattle.json.specs.Json as json
use Rattle.json.specs.Tree as tree
use Rattle.json.specs.Token.{Token}
use Rattle.json.specs.Lex.{tokens}
use Rattle.json.proofs.Printed.Decimals.{IsNumber-decimal}
use Rattle.json.proofs.Printed.Tokens.{tokens-print}
use Rattle.json.proofs.Printed.Trees.{value-json_tokens, ArePrintable-json_tokens}
use Rattle.serde_json.specs.Data.{unsigned, negative, float, Data, null, boolean, number, string, array, object, Items, no_items, item, Members, no_members, member, put, depth, items_depth, members_depth}
use Rattle.serde_json.specs.Read.{read, of_json, of_items, of_members, max_depth}
use Rattle.serde_json.specs.Written.{outline, items_outline, members_outline, compact_text}
use Rattle.serde_json.proofs.Numbers.{number_of-decimal}
use Rattle.serde_json.proofs.Texts.{print-outline}
use Rattle.cdx_ordered.specs.Ordered.{IsBelow, IsOrdered, AreItemsOrdered, AreOrdered}

-- ---- putting keeps the order

below_through : (k l : List ℕ) (ms : Members) → slice_cmp nat_cmp k l ≡ Less → IsBelow l ms → IsBelow k ms
below_through k l no_members h b = tt
below_through k l (member m d ms) h b = (nat_list_cmp_total.trans k l m h b.0, below_through k l ms h b.1)

pub turned : (k l : List ℕ) (o : Ordering) → slice_cmp nat_cmp k l ≡ o → slice_cmp nat_cmp l k ≡ ordering_reverse o
turned k l o h = nat_list_cmp_total.antisymm l k ∙ ap ordering_reverse h

below_put : (k l : List ℕ) (d : Data) (ms : Members) → slice_cmp nat_cmp k l ≡ Less → IsBelow k ms → IsBelow k (put l d ms)
below_put k l d no_members h b = (h, tt)
below_put k l d (member m e ms) h b = by (slice_cmp nat_cmp l m) (below_put k l d ms h b.1)
  where
    by : (o : Ordering) → IsBelow k (put l d ms) → IsBelow k (match_ordering o (member l d (member m e ms)) (member m d ms) (member m e (put l d ms)))
    by Less f = (h, b)
    by Equal f = b
    by Greater f = (b.0, f)

pub put_ordered : (k : List ℕ) (d : Data) (ms : Members) → IsOrdered d → AreOrdered ms → AreOrdered (put k d ms)
put_ordered k d no_members h hs = (tt, (h, tt))
put_ordered k d (member l e ms) h hs = by (slice_cmp nat_cmp k l) refl (put_ordered k d ms h hs.1.1)
  where
    by : (o : Ordering) → slice_cmp nat_cmp k l ≡ o → AreOrdered (put k d ms) → AreOrdered (match_ordering o (member k d (member l e ms)) (member l d ms) (member l e (put k d ms)))
    by Less s f = ((s, below_through k l ms s hs.0), (h, hs))
    by Equal s f = (hs.0, (h, hs.1.1))
    by Greater s f = (below_put l k d ms (turned k l Greater s) hs.0, (hs.1.0, f))

-- ---- numbers have texts

mutual
  has_numbers : (d : Data) → IsOrdered d → tree.HasNumbers (outline d)
  has_numbers null h = tt
  has_numbers (boolean b) h = tt
  has_numbers (number (unsigned n)) h = IsNumber-decimal n h
  has_numbers (number (negative z)) h = absurd (true≢false h)
  has_numbers (number (float x)) h = absurd (true≢false h)
  has_numbers (string s) h = tt
  has_numbers (array ds) h = items_have_numbers ds h
  has_numbers (object ms) h = members_have_numbers ms h

  items_have_numbers : (ds : Items) → AreItemsOrdered ds → tree.ItemsHaveNumbers (items_outline ds)
  items_have_numbers no_items h = tt
  items_have_numbers (item d ds) h = (has_numbers d h.0, items_have_numbers ds h.1)

  members_have_numbers : (ms : Members) → AreOrdered ms → tree.MembersHaveNumbers (members_outline ms)
  members_have_numbers no_members h = tt
  members_have_numbers (member k d ms) h = (has_numbers d h.1.0, members_have_numbers ms h.1.1)

-- ---- the outline is as deep

mutual
  same_depth : (d : Data) → tree.depth (outline d) ≡ depth d
  same_depth null = refl
  same_depth (boolean b) = refl
  same_depth (number n) = refl
  same_depth (string s) = refl
  same_depth (array ds) = ap suc (same_items_depth ds)
  same_depth (object ms) = ap suc (same_members_depth ms)

  same_items_depth : (ds : Items) → tree.items_depth (items_outline ds) ≡ items_depth ds
  same_items_depth no_items = refl
  same_items_depth (item d ds) = rw (same_depth d, same_items_depth ds)

  same_members_depth : (ms : Members) → tree.members_depth (members_outline ms) ≡ members_depth ms
  same_members_depth no_members = refl
  same_members_depth (member k d ms) = rw (same_depth d, same_members_depth ms)

-- ---- the outline stands for the value

-- the one members, and then the others
abbrev joined : Members → Members → Members
joined no_members ns = ns
joined (member k d ms) ns = member k d (joined ms ns)

joined_none : (ms : Members) → joined ms no_members ≡ ms
joined_none no_members = refl
joined_none (member k d ms) = ap (member k d) (joined_none ms)

joined_twice : (ms : Members) (k : List ℕ) (d : Data) (ns : Members) → joined (joined ms (member k d no_members)) ns ≡ joined ms (member k d ns)
joined_twice no_members k d ns = refl
joined_twice (member l e ms) k d ns = ap (member l e) (joined_twice ms k d ns)

below_joined : (l : List ℕ) (ms : Members) (k : List ℕ) (d : Data) (ns : Members) → IsBelow l (joined ms (member k d ns)) → slice_cmp nat_cmp l k ≡ Less
below_joined l no_members k d ns b = b.0
below_joined l (member m e ms) k d ns b = below_joined l ms k d ns b.1

-- A name that is above those before it goes last.
put_last : (ms : Members) (k : List ℕ) (d : Data) (ns : Members) → AreOrdered (joined ms (member k d ns)) → put k d ms ≡ joined ms (member k d no_members)
put_last no_members k d ns h = refl
put_last (member l e ms) k d ns h = rw (turned l k Less (below_joined l ms k d ns h.0)) (ap (member l e) (put_last ms k d ns h.1.1))

ordered_after : (ms ns : Members) → AreOrdered (joined ms ns) → AreOrdered ns
ordered_after no_members ns h = h
ordered_after (member k d ms) ns h = ordered_after ms ns h.1.1

mutual
  pub of_outline : (d : Data) → IsOrdered d → of_json (outline d) ≡ Some d
  of_outline null h = refl
  of_outline (boolean b) h = refl
  of_outline (number (unsigned n)) h = ap (option_map number) (number_of-decimal n h)
  of_outline (number (negative z)) h = absurd (true≢false h)
  of_outline (number (float x)) h = absurd (true≢false h)
  of_outline (string s) h = refl
  of_outline (array ds) h = ap (option_map array) (of_items_outline ds h)
  of_outline (object ms) h = ap (option_map object) (of_members_outline ms no_members h)

  of_items_outline : (ds : Items) → AreItemsOrdered ds → of_items (items_outline ds) ≡ Some ds
  of_items_outline no_items h = refl
  of_items_outline (item d ds) h = rw (of_outline d h.0, of_items_outline ds h.1)

  of_members_outline : (ms found : Members) → AreOrdered (joined found ms) → of_members (members_outline ms) found ≡ Some (joined found ms)
  of_members_outline no_members found h = ap Some (sym (joined_none found))
  of_members_outline (member k d ms) found h =
      let value : of_json (outline d) ≡ Some d = of_outline d (ordered_after found (member k d ms) h).1.0 in
      let ordered : AreOrdered (joined (joined found (member k d no_members)) ms) = subst AreOrdered (sym (joined_twice found k d ms)) h in
      ap (option_and_then (λ e. of_members (members_outline ms) (put k e found))) value
      ∙ (ap (of_members (members_outline ms)) (put_last found k d ms h)
      ∙ (of_members_outline ms (joined found (member k d no_members)) ordered
      ∙ ap Some (joined_twice found k d ms)))

-- what is read where no token is left over
abbrev whole : Option (json.Json × List Token) → Option Data
whole o = option_and_then of_json (option_and_then (λ p. json.if_last p.0 p.1) o)

-- The text of a value in order is read as the value.
pub read_text : (d : Data) → IsOrdered d → depth d ≤ max_depth → read (compact_text d) ≡ Some d
read_text d h shallow =
    let toks : tokens (compact_text d) ≡ tree.json_tokens (outline d) = ap tokens (sym (print-outline d)) ∙ tokens-print (tree.json_tokens (outline d)) (ArePrintable-json_tokens (outline d) (has_numbers d h)) in
    ap whole (ap (json.value max_depth) (toks ∙ sym (append-nil (tree.json_tokens (outline d)))) ∙ value-json_tokens (outline d) max_depth [] (omega (arith, same_depth d)))
    ∙ of_outline d h
