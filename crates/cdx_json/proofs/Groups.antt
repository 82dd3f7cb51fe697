-- The rows of a wide record, kept and written group by group.
use Rattle.std.proofs.Common.{◌≡◌, ℕ, suc, ◌+◌, List, [], ◌∷◌, ◌++◌, length, Vec, Global, refl, sym, ap, ◌∙◌, arith}
use Rattle.serde_json.specs.Data.{Members, no_members}
use Rattle.cdx_models.specs.declared.bom.SpecVersion.{SpecVersion}
use Rattle.cdx_models.specs.Trees.{Name, Tree, fields, Trees, none, more, ◌⧺◌}
use Rattle.cdx_models.proofs.Lists.{count}
use Rattle.cdx_schema.specs.Kinds.{Row, a_record}
use Rattle.cdx_schema.specs.Table.{rows}
use Rattle.cdx_schema.specs.Keeping.{kept, keep}
use Rattle.cdx_schema.specs.JsonSpelling.{jspell, heading}
use Rattle.cdx_json.specs.KeptRows.{kept_since, rows_held, rows_put}
use Rattle.cdx_json.specs.Spellings.{spelling_data, spelling_members}
use Rattle.cdx_json.specs.declared.spelling.Spelling.{Object as object_of}
use Rattle.cdx_json.proofs.Setting.{Entry}
use Rattle.cdx_json.proofs.Spelled.{record_spelled}

pub held_split : (w l : SpecVersion) (ts us : Trees) (rs ss : List Row) → count ts ≡ length rs → rows_held w l (ts ⧺ us) (rs ++ ss) ≡ rows_held w l ts rs ⧺ rows_held w l us ss
unfolding rows_held
held_split w l none us [] ss e = refl
held_split w l none us (r ∷ rs) ss e = absurd (omega arith)
held_split w l (more t ts) us [] ss e = absurd (omega arith)
held_split w l (more t ts) us (r ∷ rs) ss e = ap (more (kept_since r.since w (kept w l t r.kind))) (held_split w l ts us rs ss (omega arith))

-- a record of four groups
pub held_four : (w l : SpecVersion) (n : Name) (a b c d : Trees) (p q r s : List Row) → rows n ≡ p ++ (q ++ (r ++ s)) → count a ≡ length p → count b ≡ length q → count c ≡ length r
    → rows_held w l (a ⧺ (b ⧺ (c ⧺ d))) (rows n) ≡ rows_held w l a p ⧺ (rows_held w l b q ⧺ (rows_held w l c r ⧺ rows_held w l d s))
held_four w l n a b c d p q r s is i j k =
    ap (rows_held w l (a ⧺ (b ⧺ (c ⧺ d)))) is ∙ held_split w l a (b ⧺ (c ⧺ d)) p (q ++ (r ++ s)) i
    ∙ ap (λ ts. rows_held w l a p ⧺ ts) (held_split w l b (c ⧺ d) q (r ++ s) j ∙ ap (λ ts. rows_held w l b q ⧺ ts) (held_split w l c d r s k))

pub four_equal : (a b c d p q r s : Trees) → a ≡ p → b ≡ q → c ≡ r → d ≡ s → a ⧺ (b ⧺ (c ⧺ d)) ≡ p ⧺ (q ⧺ (r ⧺ s))
four_equal a b c d p q r s e f g h = rw (e, f, g, h) refl

-- a record of three groups
pub held_three : (w l : SpecVersion) (n : Name) (a b c : Trees) (p q r : List Row) → rows n ≡ p ++ (q ++ r) → count a ≡ length p → count b ≡ length q
    → rows_held w l (a ⧺ (b ⧺ c)) (rows n) ≡ rows_held w l a p ⧺ (rows_held w l b q ⧺ rows_held w l c r)
held_three w l n a b c p q r is i j =
    ap (rows_held w l (a ⧺ (b ⧺ c))) is ∙ held_split w l a (b ⧺ c) p (q ++ r) i ∙ ap (λ ts. rows_held w l a p ⧺ ts) (held_split w l b c q r j)

pub three_equal : (a b c p q r : Trees) → a ≡ p → b ≡ q → c ≡ r → a ⧺ (b ⧺ c) ≡ p ⧺ (q ⧺ r)
three_equal a b c p q r e f g = rw (e, f, g) refl

pub two_equal : (a b p q : Trees) → a ≡ p → b ≡ q → a ⧺ b ≡ p ⧺ q
two_equal a b p q e f = rw (e, f) refl

pub put_split : (w : SpecVersion) (ts us : Trees) (rs ss : List Row) (ms : Members) → count ts ≡ length rs → rows_put (ts ⧺ us) w (rs ++ ss) ms ≡ rows_put us w ss (rows_put ts w rs ms)
unfolding rows_put
put_split w none us [] ss ms e = refl
put_split w none us (r ∷ rs) ss ms e = absurd (omega arith)
put_split w (more t ts) us [] ss ms e = absurd (omega arith)
put_split w (more t ts) us (r ∷ rs) ss ms e = put_split w ts us rs ss _ (omega arith)

-- an object whose members are those of a record's rows
pub tree_spelled : (m : Vec Entry Global) (n : Name) (w : SpecVersion) (t : Tree) (ts : Trees) → t ≡ fields n ts → heading n ≡ no_members
    → spelling_members m.items ≡ rows_put ts w (rows n) no_members → spelling_data (object_of m) ≡ jspell (keep w t (a_record n)) w (a_record n)
tree_spelled m n w t ts is plain e = record_spelled m n w (fields n ts) refl plain e ∙ ap (λ u. jspell (keep w u (a_record n)) w (a_record n)) (sym is)

-- ---- one level deeper

pub one_more : (n : ℕ) → n + 1 ≡ suc n
one_more n = omega arith
