-- Whether two trees are equal, as a test.
use Rattle.std.specs.Prelude.{ℕ, Bool, true, false, ◌&&◌, ◌==◌}
use Rattle.std.specs.Str.{bytes_eq}
use Rattle.cdx_models.specs.Trees.{Name, hash, property, attached_text, contact, entity, commit, action, patch, diff, issue, source, reference, dependency, composition, license, expression, spdx_id, license_name, tool, component, swid, pedigree, evidence, copyright, service, classification, service_data, tools_object, metadata, signer, signers, chain, bill, Tree, absent, text, number, boolean, items, fields, Trees, none, more}

-- a number for each name
abbrev pub name_code : Name → ℕ
name_code hash = 0
name_code property = 1
name_code attached_text = 2
name_code contact = 3
name_code entity = 4
name_code commit = 5
name_code action = 6
name_code patch = 7
name_code diff = 8
name_code issue = 9
name_code source = 10
name_code reference = 11
name_code dependency = 12
name_code composition = 13
name_code license = 14
name_code expression = 15
name_code spdx_id = 16
name_code license_name = 17
name_code tool = 18
name_code component = 19
name_code swid = 20
name_code pedigree = 21
name_code evidence = 22
name_code copyright = 23
name_code service = 24
name_code classification = 25
name_code service_data = 26
name_code tools_object = 27
name_code metadata = 28
name_code signer = 29
name_code signers = 30
name_code chain = 31
name_code bill = 32

abbrev pub equal_bool : Bool → Bool → Bool
equal_bool true b = b
equal_bool false true = false
equal_bool false false = true

abbrev mutual
  pub equal : Tree → Tree → Bool
  equal absent absent = true
  equal absent _ = false
  equal (text a) (text b) = bytes_eq a b
  equal (text a) _ = false
  equal (number a) (number b) = a == b
  equal (number a) _ = false
  equal (boolean a) (boolean b) = equal_bool a b
  equal (boolean a) _ = false
  equal (items ts) (items us) = equal_each ts us
  equal (items ts) _ = false
  equal (fields n ts) (fields m us) = (name_code n == name_code m) && equal_each ts us
  equal (fields n ts) _ = false

  pub equal_each : Trees → Trees → Bool
  equal_each none none = true
  equal_each none (more u us) = false
  equal_each (more t ts) none = false
  equal_each (more t ts) (more u us) = equal t u && equal_each ts us
