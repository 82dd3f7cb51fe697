-- What reads the child of a position: of a bill, or of what stands in one.
use Rattle.std.proofs.Common.{◌≡◌, ℕ, zero, suc, Option, Some, None, refl, sym, ap}
use Rattle.std.specs.Prelude.{option_map}
use Rattle.cdx_machine.specs.Several.{at_position}
use Rattle.cdx_nest_machine.specs.declared.nested.ChildReader.{ChildReader}
use Rattle.cdx_nest_machine.specs.declared.nested.ChildReader.TheVariants.{Leaf, Nested}
use Rattle.cdx_push.specs.declared.kinds.LeafKind.{LeafKind}
use Rattle.cdx_push.specs.declared.kinds.LeafKind.TheVariants.{Properties, ExternalReferences, Dependencies, Compositions, Signature}
use Rattle.cdx_nest.specs.declared.frames.NestKind.{NestKind}
use Rattle.cdx_nest.specs.declared.frames.NestKind.TheVariants.{Metadata, Components, Services}
use Rattle.cdx_nest.specs.Frames as nests
use Rattle.cdx_bom.specs.Frames.{nest_reader, bill_readers, reader_of, IsNest}
use Rattle.cdx_bom.specs.declared.push.frame.BillKind.{BillKind}
use Rattle.cdx_bom.specs.declared.push.frame.BillKind.TheVariants.{Nest, Bill}
use Rattle.cdx_schema.proofs.Basics.{some_same}

-- ---- of what stands in a bill

abbrev leaf_or : LeafKind → ChildReader LeafKind BillKind → LeafKind
leaf_or l (Leaf m) = m
leaf_or l (Nested k) = l

abbrev nested_or : BillKind → ChildReader LeafKind BillKind → BillKind
nested_or k (Leaf l) = k
nested_or k (Nested n) = n

abbrev nest_or : NestKind → BillKind → NestKind
nest_or n (Nest k) = k
nest_or n Bill = n

pub has_nest : (o : Option (ChildReader LeafKind NestKind)) (r : ChildReader LeafKind BillKind) → option_map nest_reader o ≡ Some r → (q : ChildReader LeafKind NestKind) × (o ≡ Some q)
has_nest None r e = absurd (let wrong : None ≡ Some r = e in cc)
has_nest (Some q) r e = (q, refl)

pub leaf_there : (o : Option (ChildReader LeafKind NestKind)) (l : LeafKind) → option_map nest_reader o ≡ Some (Leaf l) → o ≡ Some (Leaf l)
leaf_there None l e = absurd (let wrong : None ≡ Some (Leaf l) = e in cc)
leaf_there (Some (Leaf m)) l e = ap (λ x. Some (Leaf x)) (ap (leaf_or l) (some_same e))
leaf_there (Some (Nested n)) l e = absurd (let wrong : Nested (Nest n) ≡ Leaf l = some_same e in cc)

pub nest_there : (o : Option (ChildReader LeafKind NestKind)) (n : NestKind) → option_map nest_reader o ≡ Some (Nested (Nest n)) → o ≡ Some (Nested n)
nest_there None n e = absurd (let wrong : None ≡ Some (Nested (Nest n)) = e in cc)
nest_there (Some (Leaf l)) n e = absurd (let wrong : Leaf l ≡ Nested (Nest n) = some_same e in cc)
nest_there (Some (Nested m)) n e = ap (λ x. Some (Nested x)) (ap (nest_or n) (ap (nested_or (Nest n)) (some_same e)))

-- No bill stands in anything.
nest_in_nest : (o : Option (ChildReader LeafKind NestKind)) (k : BillKind) → option_map nest_reader o ≡ Some (Nested k) → IsNest k
nest_in_nest None k e = absurd (let wrong : None ≡ Some (Nested k) = e in cc)
nest_in_nest (Some (Leaf l)) k e = absurd (let wrong : Leaf l ≡ Nested k = some_same e in cc)
nest_in_nest (Some (Nested n)) k e = (n, sym (ap (nested_or k) (some_same e)))

no_leaf : (l : LeafKind) (k : BillKind) → Some (Leaf l) ≡ Some (Nested k) → IsNest k
no_leaf l k e = absurd (let wrong : Leaf l ≡ Nested k = some_same e in cc)

nest_in_bill : (i : ℕ) (k : BillKind) → at_position bill_readers i ≡ Some (Nested k) → IsNest k
nest_in_bill zero k e = (Metadata, sym (ap (nested_or k) (some_same e)))
nest_in_bill (suc zero) k e = (Components, sym (ap (nested_or k) (some_same e)))
nest_in_bill (suc (suc zero)) k e = (Services, sym (ap (nested_or k) (some_same e)))
nest_in_bill (suc (suc (suc zero))) k e = no_leaf ExternalReferences k e
nest_in_bill (suc (suc (suc (suc zero)))) k e = no_leaf Dependencies k e
nest_in_bill (suc (suc (suc (suc (suc zero))))) k e = no_leaf Compositions k e
nest_in_bill (suc (suc (suc (suc (suc (suc zero)))))) k e = no_leaf Properties k e
nest_in_bill (suc (suc (suc (suc (suc (suc (suc zero))))))) k e = no_leaf Signature k e
nest_in_bill (suc (suc (suc (suc (suc (suc (suc (suc i)))))))) k e = absurd (let wrong : None ≡ Some (Nested k) = e in cc)

pub is_nest : (s : BillKind) (i : ℕ) (k : BillKind) → reader_of s i ≡ Some (Nested k) → IsNest k
is_nest (Nest n) i k e = nest_in_nest (nests.reader_of n i) k e
is_nest Bill i k e = nest_in_bill i k e
