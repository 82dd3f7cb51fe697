-- A record that is not written where it is hollow has something to write exactly where it isn't hollow.
use Rattle.std.proofs.Common.{◌≡◌, Bool, true, false, not, ◌&&◌, ◌||◌, refl, ap, ◌∙◌}
use Rattle.cdx_models.specs.Trees.{contact, entity, evidence, diff, source, Tree, fields, none, more, two, is_absent}
use Rattle.cdx_schema.specs.Table.{rows}
use Rattle.cdx_schema.specs.Trips.{is_hollow}
use Rattle.cdx_write.specs.WillWrite.{will_write}

of_two : (x y : Bool) → not (not x || (not y || false)) ≡ (x && (y && true))
of_two true true = refl
of_two true false = refl
of_two false y = refl

of_three : (x y z : Bool) → not (not x || (not y || (not z || false))) ≡ (x && (y && (z && true)))
of_three true y z = of_two y z
of_three false y z = refl

pub contact_hollow : (a b c d : Tree) (r : Bool) → r ≡ will_write (fields contact (more a (more b (more c (more d none))))) → not r ≡ is_hollow (fields contact (more a (more b (more c (more d none)))))
unfolding is_hollow rows
contact_hollow a b c d r e = ap not e ∙ of_three (is_absent b) (is_absent c) (is_absent d)

pub entity_hollow : (a b c d : Tree) (r : Bool) → r ≡ will_write (fields entity (more a (more b (more c (more d none))))) → not r ≡ is_hollow (fields entity (more a (more b (more c (more d none)))))
unfolding is_hollow rows
entity_hollow a b c d r e = ap not e ∙ of_three (is_absent b) (is_absent c) (is_absent d)

pub evidence_hollow : (a b : Tree) (r : Bool) → r ≡ will_write (fields evidence (two a b)) → not r ≡ is_hollow (fields evidence (two a b))
unfolding is_hollow rows
evidence_hollow a b r e = ap not e ∙ of_two (is_absent a) (is_absent b)

pub diff_hollow : (a b : Tree) (r : Bool) → r ≡ will_write (fields diff (two a b)) → not r ≡ is_hollow (fields diff (two a b))
unfolding is_hollow rows
diff_hollow a b r e = ap not e ∙ of_two (is_absent a) (is_absent b)

pub source_hollow : (a b : Tree) (r : Bool) → r ≡ will_write (fields source (two a b)) → not r ≡ is_hollow (fields source (two a b))
unfolding is_hollow rows
source_hollow a b r e = ap not e ∙ of_two (is_absent a) (is_absent b)
