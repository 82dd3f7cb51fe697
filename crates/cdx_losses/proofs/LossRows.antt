-- Worked rows on what roads take, and on bills less that.
use Rattle.std.specs.Prelude.{◌≡◌, refl, [], ◌∷◌, Some, option_map, true, false}
use Rattle.cdx_models.specs.declared.bom.SpecVersion.TheVariants.{V1_3, V1_4, V1_5}
use Rattle.cdx_schema.proofs.Literals.{reading_on_literals}
use Rattle.serde_json.proofs.OnLiterals.{serde_json_on_literals}
use Rattle.cdx_schema.specs.Roads.{fits_all}
use Rattle.cdx_losses.proofs.Shown.{js, xs, report, report_of, says, bill_of, xml_bill, are_struck_well, are_found, on_reports}
use Rattle.cdx_schema.proofs.Literals.{◌⊳◌, at, el, tag, txt, bom}
use Rattle.cdx_events.specs.Nodes.{no_nodes}

supplier_once : report "{\"bomFormat\":\"CycloneDX\",\"specVersion\":\"1.5\",\"version\":1,\"components\":[{\"type\":\"library\",\"name\":\"a\",\"supplier\":{\"url\":[]}}]}" V1_5 (xs V1_5 ∷ []) ≡ says "{\"losses\":[{\"path\":\"/components/0/supplier/url\",\"reason\":\"xml\"}]}"
unfolding reading_on_literals serde_json_on_literals on_reports
supplier_once = refl

supplier_once_less : are_struck_well (xs V1_5) ([]) (bill_of "{\"bomFormat\":\"CycloneDX\",\"specVersion\":\"1.5\",\"version\":1,\"components\":[{\"type\":\"library\",\"name\":\"a\",\"supplier\":{\"url\":[]}}]}" V1_5) ≡ true
unfolding reading_on_literals serde_json_on_literals on_reports
supplier_once_less = refl

supplier_once_found : are_found (xs V1_5 ∷ []) (bill_of "{\"bomFormat\":\"CycloneDX\",\"specVersion\":\"1.5\",\"version\":1,\"components\":[{\"type\":\"library\",\"name\":\"a\",\"supplier\":{\"url\":[]}}]}" V1_5) ≡ true
unfolding reading_on_literals serde_json_on_literals on_reports
supplier_once_found = refl

supplier_twice : report "{\"bomFormat\":\"CycloneDX\",\"specVersion\":\"1.5\",\"version\":1,\"components\":[{\"type\":\"library\",\"name\":\"a\",\"supplier\":{\"url\":[]}}]}" V1_5 (xs V1_5 ∷ xs V1_5 ∷ []) ≡ says "{\"losses\":[{\"path\":\"/components/0/supplier\",\"reason\":\"xml\"}]}"
unfolding reading_on_literals serde_json_on_literals on_reports
supplier_twice = refl

supplier_twice_less : are_struck_well (xs V1_5) (xs V1_5 ∷ []) (bill_of "{\"bomFormat\":\"CycloneDX\",\"specVersion\":\"1.5\",\"version\":1,\"components\":[{\"type\":\"library\",\"name\":\"a\",\"supplier\":{\"url\":[]}}]}" V1_5) ≡ true
unfolding reading_on_literals serde_json_on_literals on_reports
supplier_twice_less = refl

supplier_twice_found : are_found (xs V1_5 ∷ xs V1_5 ∷ []) (bill_of "{\"bomFormat\":\"CycloneDX\",\"specVersion\":\"1.5\",\"version\":1,\"components\":[{\"type\":\"library\",\"name\":\"a\",\"supplier\":{\"url\":[]}}]}" V1_5) ≡ true
unfolding reading_on_literals serde_json_on_literals on_reports
supplier_twice_found = refl

supplier_three_times : report "{\"bomFormat\":\"CycloneDX\",\"specVersion\":\"1.5\",\"version\":1,\"components\":[{\"type\":\"library\",\"name\":\"a\",\"supplier\":{\"url\":[]}}]}" V1_5 (xs V1_5 ∷ xs V1_5 ∷ xs V1_5 ∷ []) ≡ says "{\"losses\":[{\"path\":\"/components/0/supplier\",\"reason\":\"xml\"}]}"
unfolding reading_on_literals serde_json_on_literals on_reports
supplier_three_times = refl

supplier_three_times_less : are_struck_well (xs V1_5) (xs V1_5 ∷ xs V1_5 ∷ []) (bill_of "{\"bomFormat\":\"CycloneDX\",\"specVersion\":\"1.5\",\"version\":1,\"components\":[{\"type\":\"library\",\"name\":\"a\",\"supplier\":{\"url\":[]}}]}" V1_5) ≡ true
unfolding reading_on_literals serde_json_on_literals on_reports
supplier_three_times_less = refl

supplier_three_times_found : are_found (xs V1_5 ∷ xs V1_5 ∷ xs V1_5 ∷ []) (bill_of "{\"bomFormat\":\"CycloneDX\",\"specVersion\":\"1.5\",\"version\":1,\"components\":[{\"type\":\"library\",\"name\":\"a\",\"supplier\":{\"url\":[]}}]}" V1_5) ≡ true
unfolding reading_on_literals serde_json_on_literals on_reports
supplier_three_times_found = refl

supplier_never : report "{\"bomFormat\":\"CycloneDX\",\"specVersion\":\"1.5\",\"version\":1,\"components\":[{\"type\":\"library\",\"name\":\"a\",\"supplier\":{\"url\":[]}}]}" V1_5 [] ≡ says "{\"losses\":[]}"
unfolding reading_on_literals serde_json_on_literals on_reports
supplier_never = refl

supplier_in_json : report "{\"bomFormat\":\"CycloneDX\",\"specVersion\":\"1.5\",\"version\":1,\"components\":[{\"type\":\"library\",\"name\":\"a\",\"supplier\":{\"url\":[]}}]}" V1_5 (js V1_5 ∷ js V1_4 ∷ []) ≡ says "{\"losses\":[]}"
unfolding reading_on_literals serde_json_on_literals on_reports
supplier_in_json = refl

supplier_in_json_less : are_struck_well (js V1_5) (js V1_4 ∷ []) (bill_of "{\"bomFormat\":\"CycloneDX\",\"specVersion\":\"1.5\",\"version\":1,\"components\":[{\"type\":\"library\",\"name\":\"a\",\"supplier\":{\"url\":[]}}]}" V1_5) ≡ true
unfolding reading_on_literals serde_json_on_literals on_reports
supplier_in_json_less = refl

supplier_in_json_found : are_found (js V1_5 ∷ js V1_4 ∷ []) (bill_of "{\"bomFormat\":\"CycloneDX\",\"specVersion\":\"1.5\",\"version\":1,\"components\":[{\"type\":\"library\",\"name\":\"a\",\"supplier\":{\"url\":[]}}]}" V1_5) ≡ true
unfolding reading_on_literals serde_json_on_literals on_reports
supplier_in_json_found = refl

supplier_once_among_json : report "{\"bomFormat\":\"CycloneDX\",\"specVersion\":\"1.5\",\"version\":1,\"components\":[{\"type\":\"library\",\"name\":\"a\",\"supplier\":{\"url\":[]}}]}" V1_5 (js V1_5 ∷ xs V1_4 ∷ js V1_5 ∷ []) ≡ says "{\"losses\":[{\"path\":\"/components/0/supplier/url\",\"reason\":\"xml\"}]}"
unfolding reading_on_literals serde_json_on_literals on_reports
supplier_once_among_json = refl

supplier_once_among_json_less : are_struck_well (js V1_5) (xs V1_4 ∷ js V1_5 ∷ []) (bill_of "{\"bomFormat\":\"CycloneDX\",\"specVersion\":\"1.5\",\"version\":1,\"components\":[{\"type\":\"library\",\"name\":\"a\",\"supplier\":{\"url\":[]}}]}" V1_5) ≡ true
unfolding reading_on_literals serde_json_on_literals on_reports
supplier_once_among_json_less = refl

supplier_once_among_json_found : are_found (js V1_5 ∷ xs V1_4 ∷ js V1_5 ∷ []) (bill_of "{\"bomFormat\":\"CycloneDX\",\"specVersion\":\"1.5\",\"version\":1,\"components\":[{\"type\":\"library\",\"name\":\"a\",\"supplier\":{\"url\":[]}}]}" V1_5) ≡ true
unfolding reading_on_literals serde_json_on_literals on_reports
supplier_once_among_json_found = refl

supplier_twice_among_json : report "{\"bomFormat\":\"CycloneDX\",\"specVersion\":\"1.5\",\"version\":1,\"components\":[{\"type\":\"library\",\"name\":\"a\",\"supplier\":{\"url\":[]}}]}" V1_5 (xs V1_5 ∷ js V1_5 ∷ xs V1_4 ∷ js V1_5 ∷ []) ≡ says "{\"losses\":[{\"path\":\"/components/0/supplier\",\"reason\":\"xml\"}]}"
unfolding reading_on_literals serde_json_on_literals on_reports
supplier_twice_among_json = refl

supplier_twice_among_json_less : are_struck_well (xs V1_5) (js V1_5 ∷ xs V1_4 ∷ js V1_5 ∷ []) (bill_of "{\"bomFormat\":\"CycloneDX\",\"specVersion\":\"1.5\",\"version\":1,\"components\":[{\"type\":\"library\",\"name\":\"a\",\"supplier\":{\"url\":[]}}]}" V1_5) ≡ true
unfolding reading_on_literals serde_json_on_literals on_reports
supplier_twice_among_json_less = refl

supplier_twice_among_json_found : are_found (xs V1_5 ∷ js V1_5 ∷ xs V1_4 ∷ js V1_5 ∷ []) (bill_of "{\"bomFormat\":\"CycloneDX\",\"specVersion\":\"1.5\",\"version\":1,\"components\":[{\"type\":\"library\",\"name\":\"a\",\"supplier\":{\"url\":[]}}]}" V1_5) ≡ true
unfolding reading_on_literals serde_json_on_literals on_reports
supplier_twice_among_json_found = refl

supplier_without_anything : report "{\"bomFormat\":\"CycloneDX\",\"specVersion\":\"1.5\",\"version\":1,\"components\":[{\"type\":\"library\",\"name\":\"a\",\"supplier\":{}}]}" V1_5 (xs V1_5 ∷ []) ≡ says "{\"losses\":[{\"path\":\"/components/0/supplier\",\"reason\":\"xml\"}]}"
unfolding reading_on_literals serde_json_on_literals on_reports
supplier_without_anything = refl

supplier_without_anything_less : are_struck_well (xs V1_5) ([]) (bill_of "{\"bomFormat\":\"CycloneDX\",\"specVersion\":\"1.5\",\"version\":1,\"components\":[{\"type\":\"library\",\"name\":\"a\",\"supplier\":{}}]}" V1_5) ≡ true
unfolding reading_on_literals serde_json_on_literals on_reports
supplier_without_anything_less = refl

supplier_without_anything_found : are_found (xs V1_5 ∷ []) (bill_of "{\"bomFormat\":\"CycloneDX\",\"specVersion\":\"1.5\",\"version\":1,\"components\":[{\"type\":\"library\",\"name\":\"a\",\"supplier\":{}}]}" V1_5) ≡ true
unfolding reading_on_literals serde_json_on_literals on_reports
supplier_without_anything_found = refl

supplier_with_reference_alone : report "{\"bomFormat\":\"CycloneDX\",\"specVersion\":\"1.5\",\"version\":1,\"components\":[{\"type\":\"library\",\"name\":\"a\",\"supplier\":{\"bomRef\":\"s\"}}]}" V1_5 (xs V1_4 ∷ []) ≡ says "{\"losses\":[{\"path\":\"/components/0/supplier\",\"reason\":\"xml\"}]}"
unfolding reading_on_literals serde_json_on_literals on_reports
supplier_with_reference_alone = refl

supplier_with_reference_alone_less : are_struck_well (xs V1_4) ([]) (bill_of "{\"bomFormat\":\"CycloneDX\",\"specVersion\":\"1.5\",\"version\":1,\"components\":[{\"type\":\"library\",\"name\":\"a\",\"supplier\":{\"bomRef\":\"s\"}}]}" V1_5) ≡ true
unfolding reading_on_literals serde_json_on_literals on_reports
supplier_with_reference_alone_less = refl

supplier_with_reference_alone_found : are_found (xs V1_4 ∷ []) (bill_of "{\"bomFormat\":\"CycloneDX\",\"specVersion\":\"1.5\",\"version\":1,\"components\":[{\"type\":\"library\",\"name\":\"a\",\"supplier\":{\"bomRef\":\"s\"}}]}" V1_5) ≡ true
unfolding reading_on_literals serde_json_on_literals on_reports
supplier_with_reference_alone_found = refl

supplier_with_empty_contacts : report "{\"bomFormat\":\"CycloneDX\",\"specVersion\":\"1.5\",\"version\":1,\"components\":[{\"type\":\"library\",\"name\":\"a\",\"supplier\":{\"contact\":[]}}]}" V1_5 (xs V1_5 ∷ []) ≡ says "{\"losses\":[{\"path\":\"/components/0/supplier/contact\",\"reason\":\"xml\"}]}"
unfolding reading_on_literals serde_json_on_literals on_reports
supplier_with_empty_contacts = refl

supplier_with_empty_contacts_less : are_struck_well (xs V1_5) ([]) (bill_of "{\"bomFormat\":\"CycloneDX\",\"specVersion\":\"1.5\",\"version\":1,\"components\":[{\"type\":\"library\",\"name\":\"a\",\"supplier\":{\"contact\":[]}}]}" V1_5) ≡ true
unfolding reading_on_literals serde_json_on_literals on_reports
supplier_with_empty_contacts_less = refl

supplier_with_empty_contacts_found : are_found (xs V1_5 ∷ []) (bill_of "{\"bomFormat\":\"CycloneDX\",\"specVersion\":\"1.5\",\"version\":1,\"components\":[{\"type\":\"library\",\"name\":\"a\",\"supplier\":{\"contact\":[]}}]}" V1_5) ≡ true
unfolding reading_on_literals serde_json_on_literals on_reports
supplier_with_empty_contacts_found = refl

supplier_with_hollow_contacts : report "{\"bomFormat\":\"CycloneDX\",\"specVersion\":\"1.5\",\"version\":1,\"components\":[{\"type\":\"library\",\"name\":\"a\",\"supplier\":{\"contact\":[{\"bomRef\":\"c\"},{}]}}]}" V1_5 (xs V1_5 ∷ []) ≡ says "{\"losses\":[{\"path\":\"/components/0/supplier/contact\",\"reason\":\"xml\"}]}"
unfolding reading_on_literals serde_json_on_literals on_reports
supplier_with_hollow_contacts = refl

supplier_with_hollow_contacts_less : are_struck_well (xs V1_5) ([]) (bill_of "{\"bomFormat\":\"CycloneDX\",\"specVersion\":\"1.5\",\"version\":1,\"components\":[{\"type\":\"library\",\"name\":\"a\",\"supplier\":{\"contact\":[{\"bomRef\":\"c\"},{}]}}]}" V1_5) ≡ true
unfolding reading_on_literals serde_json_on_literals on_reports
supplier_with_hollow_contacts_less = refl

supplier_with_hollow_contacts_found : are_found (xs V1_5 ∷ []) (bill_of "{\"bomFormat\":\"CycloneDX\",\"specVersion\":\"1.5\",\"version\":1,\"components\":[{\"type\":\"library\",\"name\":\"a\",\"supplier\":{\"contact\":[{\"bomRef\":\"c\"},{}]}}]}" V1_5) ≡ true
unfolding reading_on_literals serde_json_on_literals on_reports
supplier_with_hollow_contacts_found = refl

supplier_with_hollow_contacts_twice : report "{\"bomFormat\":\"CycloneDX\",\"specVersion\":\"1.5\",\"version\":1,\"components\":[{\"type\":\"library\",\"name\":\"a\",\"supplier\":{\"contact\":[{\"bomRef\":\"c\"},{}]}}]}" V1_5 (xs V1_5 ∷ xs V1_5 ∷ []) ≡ says "{\"losses\":[{\"path\":\"/components/0/supplier\",\"reason\":\"xml\"}]}"
unfolding reading_on_literals serde_json_on_literals on_reports
supplier_with_hollow_contacts_twice = refl

supplier_with_hollow_contacts_twice_less : are_struck_well (xs V1_5) (xs V1_5 ∷ []) (bill_of "{\"bomFormat\":\"CycloneDX\",\"specVersion\":\"1.5\",\"version\":1,\"components\":[{\"type\":\"library\",\"name\":\"a\",\"supplier\":{\"contact\":[{\"bomRef\":\"c\"},{}]}}]}" V1_5) ≡ true
unfolding reading_on_literals serde_json_on_literals on_reports
supplier_with_hollow_contacts_twice_less = refl

supplier_with_hollow_contacts_twice_found : are_found (xs V1_5 ∷ xs V1_5 ∷ []) (bill_of "{\"bomFormat\":\"CycloneDX\",\"specVersion\":\"1.5\",\"version\":1,\"components\":[{\"type\":\"library\",\"name\":\"a\",\"supplier\":{\"contact\":[{\"bomRef\":\"c\"},{}]}}]}" V1_5) ≡ true
unfolding reading_on_literals serde_json_on_literals on_reports
supplier_with_hollow_contacts_twice_found = refl

supplier_with_url_and_contacts_once : report "{\"bomFormat\":\"CycloneDX\",\"specVersion\":\"1.5\",\"version\":1,\"components\":[{\"type\":\"library\",\"name\":\"a\",\"supplier\":{\"url\":[],\"contact\":[]}}]}" V1_5 (xs V1_5 ∷ []) ≡ says "{\"losses\":[{\"path\":\"/components/0/supplier/url\",\"reason\":\"xml\"},{\"path\":\"/components/0/supplier/contact\",\"reason\":\"xml\"}]}"
unfolding reading_on_literals serde_json_on_literals on_reports
supplier_with_url_and_contacts_once = refl

supplier_with_url_and_contacts_once_less : are_struck_well (xs V1_5) ([]) (bill_of "{\"bomFormat\":\"CycloneDX\",\"specVersion\":\"1.5\",\"version\":1,\"components\":[{\"type\":\"library\",\"name\":\"a\",\"supplier\":{\"url\":[],\"contact\":[]}}]}" V1_5) ≡ true
unfolding reading_on_literals serde_json_on_literals on_reports
supplier_with_url_and_contacts_once_less = refl

supplier_with_url_and_contacts_once_found : are_found (xs V1_5 ∷ []) (bill_of "{\"bomFormat\":\"CycloneDX\",\"specVersion\":\"1.5\",\"version\":1,\"components\":[{\"type\":\"library\",\"name\":\"a\",\"supplier\":{\"url\":[],\"contact\":[]}}]}" V1_5) ≡ true
unfolding reading_on_literals serde_json_on_literals on_reports
supplier_with_url_and_contacts_once_found = refl

supplier_with_some_contacts : report "{\"bomFormat\":\"CycloneDX\",\"specVersion\":\"1.5\",\"version\":1,\"components\":[{\"type\":\"library\",\"name\":\"a\",\"supplier\":{\"url\":[\"u\"],\"contact\":[{\"bomRef\":\"c\"},{\"name\":\"n\"},{},{\"phone\":\"p\"}]}}]}" V1_5 (xs V1_5 ∷ xs V1_5 ∷ []) ≡ says "{\"losses\":[{\"path\":\"/components/0/supplier/contact/0\",\"reason\":\"xml\"},{\"path\":\"/components/0/supplier/contact/2\",\"reason\":\"xml\"}]}"
unfolding reading_on_literals serde_json_on_literals on_reports
supplier_with_some_contacts = refl

supplier_with_some_contacts_less : are_struck_well (xs V1_5) (xs V1_5 ∷ []) (bill_of "{\"bomFormat\":\"CycloneDX\",\"specVersion\":\"1.5\",\"version\":1,\"components\":[{\"type\":\"library\",\"name\":\"a\",\"supplier\":{\"url\":[\"u\"],\"contact\":[{\"bomRef\":\"c\"},{\"name\":\"n\"},{},{\"phone\":\"p\"}]}}]}" V1_5) ≡ true
unfolding reading_on_literals serde_json_on_literals on_reports
supplier_with_some_contacts_less = refl

supplier_with_some_contacts_found : are_found (xs V1_5 ∷ xs V1_5 ∷ []) (bill_of "{\"bomFormat\":\"CycloneDX\",\"specVersion\":\"1.5\",\"version\":1,\"components\":[{\"type\":\"library\",\"name\":\"a\",\"supplier\":{\"url\":[\"u\"],\"contact\":[{\"bomRef\":\"c\"},{\"name\":\"n\"},{},{\"phone\":\"p\"}]}}]}" V1_5) ≡ true
unfolding reading_on_literals serde_json_on_literals on_reports
supplier_with_some_contacts_found = refl

supplier_with_a_name : report "{\"bomFormat\":\"CycloneDX\",\"specVersion\":\"1.5\",\"version\":1,\"components\":[{\"type\":\"library\",\"name\":\"a\",\"supplier\":{\"name\":\"n\",\"url\":[],\"contact\":[]}}]}" V1_5 (xs V1_5 ∷ xs V1_5 ∷ xs V1_5 ∷ []) ≡ says "{\"losses\":[{\"path\":\"/components/0/supplier/url\",\"reason\":\"xml\"},{\"path\":\"/components/0/supplier/contact\",\"reason\":\"xml\"}]}"
unfolding reading_on_literals serde_json_on_literals on_reports
supplier_with_a_name = refl

supplier_with_a_name_less : are_struck_well (xs V1_5) (xs V1_5 ∷ xs V1_5 ∷ []) (bill_of "{\"bomFormat\":\"CycloneDX\",\"specVersion\":\"1.5\",\"version\":1,\"components\":[{\"type\":\"library\",\"name\":\"a\",\"supplier\":{\"name\":\"n\",\"url\":[],\"contact\":[]}}]}" V1_5) ≡ true
unfolding reading_on_literals serde_json_on_literals on_reports
supplier_with_a_name_less = refl

supplier_with_a_name_found : are_found (xs V1_5 ∷ xs V1_5 ∷ xs V1_5 ∷ []) (bill_of "{\"bomFormat\":\"CycloneDX\",\"specVersion\":\"1.5\",\"version\":1,\"components\":[{\"type\":\"library\",\"name\":\"a\",\"supplier\":{\"name\":\"n\",\"url\":[],\"contact\":[]}}]}" V1_5) ≡ true
unfolding reading_on_literals serde_json_on_literals on_reports
supplier_with_a_name_found = refl

supplier_with_urls : report "{\"bomFormat\":\"CycloneDX\",\"specVersion\":\"1.5\",\"version\":1,\"components\":[{\"type\":\"library\",\"name\":\"a\",\"supplier\":{\"url\":[\"u\"]}}]}" V1_5 (xs V1_5 ∷ xs V1_5 ∷ []) ≡ says "{\"losses\":[]}"
unfolding reading_on_literals serde_json_on_literals on_reports
supplier_with_urls = refl

supplier_with_urls_less : are_struck_well (xs V1_5) (xs V1_5 ∷ []) (bill_of "{\"bomFormat\":\"CycloneDX\",\"specVersion\":\"1.5\",\"version\":1,\"components\":[{\"type\":\"library\",\"name\":\"a\",\"supplier\":{\"url\":[\"u\"]}}]}" V1_5) ≡ true
unfolding reading_on_literals serde_json_on_literals on_reports
supplier_with_urls_less = refl

supplier_with_urls_found : are_found (xs V1_5 ∷ xs V1_5 ∷ []) (bill_of "{\"bomFormat\":\"CycloneDX\",\"specVersion\":\"1.5\",\"version\":1,\"components\":[{\"type\":\"library\",\"name\":\"a\",\"supplier\":{\"url\":[\"u\"]}}]}" V1_5) ≡ true
unfolding reading_on_literals serde_json_on_literals on_reports
supplier_with_urls_found = refl

supplier_of_nested : report "{\"bomFormat\":\"CycloneDX\",\"specVersion\":\"1.5\",\"version\":1,\"components\":[{\"type\":\"library\",\"name\":\"a\",\"components\":[{\"type\":\"library\",\"name\":\"a\",\"supplier\":{\"url\":[]},\"pedigree\":{\"variants\":[{\"type\":\"library\",\"name\":\"a\",\"supplier\":{}}]}}]}]}" V1_5 (xs V1_5 ∷ []) ≡ says "{\"losses\":[{\"path\":\"/components/0/components/0/supplier/url\",\"reason\":\"xml\"},{\"path\":\"/components/0/components/0/pedigree/variants/0/supplier\",\"reason\":\"xml\"}]}"
unfolding reading_on_literals serde_json_on_literals on_reports
supplier_of_nested = refl

supplier_of_nested_less : are_struck_well (xs V1_5) ([]) (bill_of "{\"bomFormat\":\"CycloneDX\",\"specVersion\":\"1.5\",\"version\":1,\"components\":[{\"type\":\"library\",\"name\":\"a\",\"components\":[{\"type\":\"library\",\"name\":\"a\",\"supplier\":{\"url\":[]},\"pedigree\":{\"variants\":[{\"type\":\"library\",\"name\":\"a\",\"supplier\":{}}]}}]}]}" V1_5) ≡ true
unfolding reading_on_literals serde_json_on_literals on_reports
supplier_of_nested_less = refl

supplier_of_nested_found : are_found (xs V1_5 ∷ []) (bill_of "{\"bomFormat\":\"CycloneDX\",\"specVersion\":\"1.5\",\"version\":1,\"components\":[{\"type\":\"library\",\"name\":\"a\",\"components\":[{\"type\":\"library\",\"name\":\"a\",\"supplier\":{\"url\":[]},\"pedigree\":{\"variants\":[{\"type\":\"library\",\"name\":\"a\",\"supplier\":{}}]}}]}]}" V1_5) ≡ true
unfolding reading_on_literals serde_json_on_literals on_reports
supplier_of_nested_found = refl

other_entities_twice : report "{\"bomFormat\":\"CycloneDX\",\"specVersion\":\"1.5\",\"version\":1,\"metadata\":{\"manufacture\":{\"url\":[]},\"supplier\":{\"contact\":[{}]}},\"services\":[{\"name\":\"s\",\"provider\":{\"url\":[],\"bomRef\":\"r\"}}]}" V1_5 (xs V1_5 ∷ xs V1_5 ∷ []) ≡ says "{\"losses\":[{\"path\":\"/metadata/manufacture/url\",\"reason\":\"xml\"},{\"path\":\"/metadata/supplier/contact\",\"reason\":\"xml\"},{\"path\":\"/services/0/provider/url\",\"reason\":\"xml\"}]}"
unfolding reading_on_literals serde_json_on_literals on_reports
other_entities_twice = refl

other_entities_twice_less : are_struck_well (xs V1_5) (xs V1_5 ∷ []) (bill_of "{\"bomFormat\":\"CycloneDX\",\"specVersion\":\"1.5\",\"version\":1,\"metadata\":{\"manufacture\":{\"url\":[]},\"supplier\":{\"contact\":[{}]}},\"services\":[{\"name\":\"s\",\"provider\":{\"url\":[],\"bomRef\":\"r\"}}]}" V1_5) ≡ true
unfolding reading_on_literals serde_json_on_literals on_reports
other_entities_twice_less = refl

other_entities_twice_found : are_found (xs V1_5 ∷ xs V1_5 ∷ []) (bill_of "{\"bomFormat\":\"CycloneDX\",\"specVersion\":\"1.5\",\"version\":1,\"metadata\":{\"manufacture\":{\"url\":[]},\"supplier\":{\"contact\":[{}]}},\"services\":[{\"name\":\"s\",\"provider\":{\"url\":[],\"bomRef\":\"r\"}}]}" V1_5) ≡ true
unfolding reading_on_literals serde_json_on_literals on_reports
other_entities_twice_found = refl

other_entities_stay : report "{\"bomFormat\":\"CycloneDX\",\"specVersion\":\"1.5\",\"version\":1,\"metadata\":{\"manufacture\":{},\"supplier\":{\"bomRef\":\"b\"}},\"services\":[{\"name\":\"s\",\"provider\":{}}]}" V1_5 (xs V1_5 ∷ xs V1_5 ∷ []) ≡ says "{\"losses\":[]}"
unfolding reading_on_literals serde_json_on_literals on_reports
other_entities_stay = refl

other_entities_stay_less : are_struck_well (xs V1_5) (xs V1_5 ∷ []) (bill_of "{\"bomFormat\":\"CycloneDX\",\"specVersion\":\"1.5\",\"version\":1,\"metadata\":{\"manufacture\":{},\"supplier\":{\"bomRef\":\"b\"}},\"services\":[{\"name\":\"s\",\"provider\":{}}]}" V1_5) ≡ true
unfolding reading_on_literals serde_json_on_literals on_reports
other_entities_stay_less = refl

other_entities_stay_found : are_found (xs V1_5 ∷ xs V1_5 ∷ []) (bill_of "{\"bomFormat\":\"CycloneDX\",\"specVersion\":\"1.5\",\"version\":1,\"metadata\":{\"manufacture\":{},\"supplier\":{\"bomRef\":\"b\"}},\"services\":[{\"name\":\"s\",\"provider\":{}}]}" V1_5) ≡ true
unfolding reading_on_literals serde_json_on_literals on_reports
other_entities_stay_found = refl

supplier_of_metadata_component : report "{\"bomFormat\":\"CycloneDX\",\"specVersion\":\"1.5\",\"version\":1,\"metadata\":{\"component\":{\"type\":\"library\",\"name\":\"a\",\"supplier\":{\"url\":[]}}}}" V1_5 (xs V1_5 ∷ xs V1_5 ∷ []) ≡ says "{\"losses\":[{\"path\":\"/metadata/component/supplier\",\"reason\":\"xml\"}]}"
unfolding reading_on_literals serde_json_on_literals on_reports
supplier_of_metadata_component = refl

supplier_of_metadata_component_less : are_struck_well (xs V1_5) (xs V1_5 ∷ []) (bill_of "{\"bomFormat\":\"CycloneDX\",\"specVersion\":\"1.5\",\"version\":1,\"metadata\":{\"component\":{\"type\":\"library\",\"name\":\"a\",\"supplier\":{\"url\":[]}}}}" V1_5) ≡ true
unfolding reading_on_literals serde_json_on_literals on_reports
supplier_of_metadata_component_less = refl

supplier_of_metadata_component_found : are_found (xs V1_5 ∷ xs V1_5 ∷ []) (bill_of "{\"bomFormat\":\"CycloneDX\",\"specVersion\":\"1.5\",\"version\":1,\"metadata\":{\"component\":{\"type\":\"library\",\"name\":\"a\",\"supplier\":{\"url\":[]}}}}" V1_5) ≡ true
unfolding reading_on_literals serde_json_on_literals on_reports
supplier_of_metadata_component_found = refl

hollow_authors : report "{\"bomFormat\":\"CycloneDX\",\"specVersion\":\"1.5\",\"version\":1,\"metadata\":{\"authors\":[{\"bomRef\":\"a\"},{\"name\":\"b\"},{}]}}" V1_5 (xs V1_5 ∷ []) ≡ says "{\"losses\":[{\"path\":\"/metadata/authors/0\",\"reason\":\"xml\"},{\"path\":\"/metadata/authors/2\",\"reason\":\"xml\"}]}"
unfolding reading_on_literals serde_json_on_literals on_reports
hollow_authors = refl

hollow_authors_less : are_struck_well (xs V1_5) ([]) (bill_of "{\"bomFormat\":\"CycloneDX\",\"specVersion\":\"1.5\",\"version\":1,\"metadata\":{\"authors\":[{\"bomRef\":\"a\"},{\"name\":\"b\"},{}]}}" V1_5) ≡ true
unfolding reading_on_literals serde_json_on_literals on_reports
hollow_authors_less = refl

hollow_authors_found : are_found (xs V1_5 ∷ []) (bill_of "{\"bomFormat\":\"CycloneDX\",\"specVersion\":\"1.5\",\"version\":1,\"metadata\":{\"authors\":[{\"bomRef\":\"a\"},{\"name\":\"b\"},{}]}}" V1_5) ≡ true
unfolding reading_on_literals serde_json_on_literals on_reports
hollow_authors_found = refl

all_authors_hollow : report "{\"bomFormat\":\"CycloneDX\",\"specVersion\":\"1.5\",\"version\":1,\"metadata\":{\"authors\":[{}]}}" V1_5 (xs V1_5 ∷ xs V1_4 ∷ []) ≡ says "{\"losses\":[{\"path\":\"/metadata/authors/0\",\"reason\":\"xml\"}]}"
unfolding reading_on_literals serde_json_on_literals on_reports
all_authors_hollow = refl

all_authors_hollow_less : are_struck_well (xs V1_5) (xs V1_4 ∷ []) (bill_of "{\"bomFormat\":\"CycloneDX\",\"specVersion\":\"1.5\",\"version\":1,\"metadata\":{\"authors\":[{}]}}" V1_5) ≡ true
unfolding reading_on_literals serde_json_on_literals on_reports
all_authors_hollow_less = refl

all_authors_hollow_found : are_found (xs V1_5 ∷ xs V1_4 ∷ []) (bill_of "{\"bomFormat\":\"CycloneDX\",\"specVersion\":\"1.5\",\"version\":1,\"metadata\":{\"authors\":[{}]}}" V1_5) ≡ true
unfolding reading_on_literals serde_json_on_literals on_reports
all_authors_hollow_found = refl

no_authors : report "{\"bomFormat\":\"CycloneDX\",\"specVersion\":\"1.5\",\"version\":1,\"metadata\":{\"authors\":[]}}" V1_5 (xs V1_5 ∷ []) ≡ says "{\"losses\":[]}"
unfolding reading_on_literals serde_json_on_literals on_reports
no_authors = refl

no_authors_less : are_struck_well (xs V1_5) ([]) (bill_of "{\"bomFormat\":\"CycloneDX\",\"specVersion\":\"1.5\",\"version\":1,\"metadata\":{\"authors\":[]}}" V1_5) ≡ true
unfolding reading_on_literals serde_json_on_literals on_reports
no_authors_less = refl

no_authors_found : are_found (xs V1_5 ∷ []) (bill_of "{\"bomFormat\":\"CycloneDX\",\"specVersion\":\"1.5\",\"version\":1,\"metadata\":{\"authors\":[]}}" V1_5) ≡ true
unfolding reading_on_literals serde_json_on_literals on_reports
no_authors_found = refl

hollow_evidence : report "{\"bomFormat\":\"CycloneDX\",\"specVersion\":\"1.5\",\"version\":1,\"components\":[{\"type\":\"library\",\"name\":\"a\",\"evidence\":{}},{\"type\":\"library\",\"name\":\"a\",\"evidence\":{\"licenses\":[]}}]}" V1_5 (xs V1_5 ∷ []) ≡ says "{\"losses\":[{\"path\":\"/components/0/evidence\",\"reason\":\"xml\"}]}"
unfolding reading_on_literals serde_json_on_literals on_reports
hollow_evidence = refl

hollow_evidence_less : are_struck_well (xs V1_5) ([]) (bill_of "{\"bomFormat\":\"CycloneDX\",\"specVersion\":\"1.5\",\"version\":1,\"components\":[{\"type\":\"library\",\"name\":\"a\",\"evidence\":{}},{\"type\":\"library\",\"name\":\"a\",\"evidence\":{\"licenses\":[]}}]}" V1_5) ≡ true
unfolding reading_on_literals serde_json_on_literals on_reports
hollow_evidence_less = refl

hollow_evidence_found : are_found (xs V1_5 ∷ []) (bill_of "{\"bomFormat\":\"CycloneDX\",\"specVersion\":\"1.5\",\"version\":1,\"components\":[{\"type\":\"library\",\"name\":\"a\",\"evidence\":{}},{\"type\":\"library\",\"name\":\"a\",\"evidence\":{\"licenses\":[]}}]}" V1_5) ≡ true
unfolding reading_on_literals serde_json_on_literals on_reports
hollow_evidence_found = refl

hollow_diff_and_source : report "{\"bomFormat\":\"CycloneDX\",\"specVersion\":\"1.5\",\"version\":1,\"components\":[{\"type\":\"library\",\"name\":\"a\",\"pedigree\":{\"patches\":[{\"type\":\"t\",\"diff\":{},\"resolves\":[{\"type\":\"i\",\"source\":{}},{\"type\":\"i\",\"source\":{\"url\":\"u\"}}]}]}}]}" V1_5 (xs V1_5 ∷ []) ≡ says "{\"losses\":[{\"path\":\"/components/0/pedigree/patches/0/diff\",\"reason\":\"xml\"},{\"path\":\"/components/0/pedigree/patches/0/resolves/0/source\",\"reason\":\"xml\"}]}"
unfolding reading_on_literals serde_json_on_literals on_reports
hollow_diff_and_source = refl

hollow_diff_and_source_less : are_struck_well (xs V1_5) ([]) (bill_of "{\"bomFormat\":\"CycloneDX\",\"specVersion\":\"1.5\",\"version\":1,\"components\":[{\"type\":\"library\",\"name\":\"a\",\"pedigree\":{\"patches\":[{\"type\":\"t\",\"diff\":{},\"resolves\":[{\"type\":\"i\",\"source\":{}},{\"type\":\"i\",\"source\":{\"url\":\"u\"}}]}]}}]}" V1_5) ≡ true
unfolding reading_on_literals serde_json_on_literals on_reports
hollow_diff_and_source_less = refl

hollow_diff_and_source_found : are_found (xs V1_5 ∷ []) (bill_of "{\"bomFormat\":\"CycloneDX\",\"specVersion\":\"1.5\",\"version\":1,\"components\":[{\"type\":\"library\",\"name\":\"a\",\"pedigree\":{\"patches\":[{\"type\":\"t\",\"diff\":{},\"resolves\":[{\"type\":\"i\",\"source\":{}},{\"type\":\"i\",\"source\":{\"url\":\"u\"}}]}]}}]}" V1_5) ≡ true
unfolding reading_on_literals serde_json_on_literals on_reports
hollow_diff_and_source_found = refl

signature_in_xml : report "{\"bomFormat\":\"CycloneDX\",\"specVersion\":\"1.5\",\"version\":1,\"signature\":{\"algorithm\":\"ES256\",\"value\":\"v\"}}" V1_5 (xs V1_5 ∷ []) ≡ says "{\"losses\":[]}"
unfolding reading_on_literals serde_json_on_literals on_reports
signature_in_xml = refl

signature_in_xml_less : are_struck_well (xs V1_5) ([]) (bill_of "{\"bomFormat\":\"CycloneDX\",\"specVersion\":\"1.5\",\"version\":1,\"signature\":{\"algorithm\":\"ES256\",\"value\":\"v\"}}" V1_5) ≡ true
unfolding reading_on_literals serde_json_on_literals on_reports
signature_in_xml_less = refl

signature_in_xml_found : are_found (xs V1_5 ∷ []) (bill_of "{\"bomFormat\":\"CycloneDX\",\"specVersion\":\"1.5\",\"version\":1,\"signature\":{\"algorithm\":\"ES256\",\"value\":\"v\"}}" V1_5) ≡ true
unfolding reading_on_literals serde_json_on_literals on_reports
signature_in_xml_found = refl

signature_by_version : report "{\"bomFormat\":\"CycloneDX\",\"specVersion\":\"1.5\",\"version\":1,\"signature\":{\"algorithm\":\"ES256\",\"value\":\"v\"}}" V1_5 (xs V1_5 ∷ js V1_3 ∷ []) ≡ says "{\"losses\":[{\"path\":\"/signature\",\"reason\":\"version\"}]}"
unfolding reading_on_literals serde_json_on_literals on_reports
signature_by_version = refl

signature_by_version_less : are_struck_well (xs V1_5) (js V1_3 ∷ []) (bill_of "{\"bomFormat\":\"CycloneDX\",\"specVersion\":\"1.5\",\"version\":1,\"signature\":{\"algorithm\":\"ES256\",\"value\":\"v\"}}" V1_5) ≡ true
unfolding reading_on_literals serde_json_on_literals on_reports
signature_by_version_less = refl

signature_by_version_found : are_found (xs V1_5 ∷ js V1_3 ∷ []) (bill_of "{\"bomFormat\":\"CycloneDX\",\"specVersion\":\"1.5\",\"version\":1,\"signature\":{\"algorithm\":\"ES256\",\"value\":\"v\"}}" V1_5) ≡ true
unfolding reading_on_literals serde_json_on_literals on_reports
signature_by_version_found = refl

signature_in_json : report "{\"bomFormat\":\"CycloneDX\",\"specVersion\":\"1.5\",\"version\":1,\"signature\":{\"algorithm\":\"ES256\",\"value\":\"v\"}}" V1_5 (js V1_4 ∷ []) ≡ says "{\"losses\":[]}"
unfolding reading_on_literals serde_json_on_literals on_reports
signature_in_json = refl

signature_in_json_less : are_struck_well (js V1_4) ([]) (bill_of "{\"bomFormat\":\"CycloneDX\",\"specVersion\":\"1.5\",\"version\":1,\"signature\":{\"algorithm\":\"ES256\",\"value\":\"v\"}}" V1_5) ≡ true
unfolding reading_on_literals serde_json_on_literals on_reports
signature_in_json_less = refl

signature_in_json_found : are_found (js V1_4 ∷ []) (bill_of "{\"bomFormat\":\"CycloneDX\",\"specVersion\":\"1.5\",\"version\":1,\"signature\":{\"algorithm\":\"ES256\",\"value\":\"v\"}}" V1_5) ≡ true
unfolding reading_on_literals serde_json_on_literals on_reports
signature_in_json_found = refl

signers_by_version : report "{\"bomFormat\":\"CycloneDX\",\"specVersion\":\"1.5\",\"version\":1,\"components\":[{\"type\":\"library\",\"name\":\"a\",\"version\":\"1\",\"signature\":{\"signers\":[{\"algorithm\":\"ES256\",\"value\":\"v\"}]}}],\"signature\":{\"chain\":[{\"algorithm\":\"ES256\",\"value\":\"v\"}]}}" V1_5 (js V1_3 ∷ []) ≡ says "{\"losses\":[{\"path\":\"/components/0/signature\",\"reason\":\"version\"},{\"path\":\"/signature\",\"reason\":\"version\"}]}"
unfolding reading_on_literals serde_json_on_literals on_reports
signers_by_version = refl

signers_by_version_less : are_struck_well (js V1_3) ([]) (bill_of "{\"bomFormat\":\"CycloneDX\",\"specVersion\":\"1.5\",\"version\":1,\"components\":[{\"type\":\"library\",\"name\":\"a\",\"version\":\"1\",\"signature\":{\"signers\":[{\"algorithm\":\"ES256\",\"value\":\"v\"}]}}],\"signature\":{\"chain\":[{\"algorithm\":\"ES256\",\"value\":\"v\"}]}}" V1_5) ≡ true
unfolding reading_on_literals serde_json_on_literals on_reports
signers_by_version_less = refl

signers_by_version_found : are_found (js V1_3 ∷ []) (bill_of "{\"bomFormat\":\"CycloneDX\",\"specVersion\":\"1.5\",\"version\":1,\"components\":[{\"type\":\"library\",\"name\":\"a\",\"version\":\"1\",\"signature\":{\"signers\":[{\"algorithm\":\"ES256\",\"value\":\"v\"}]}}],\"signature\":{\"chain\":[{\"algorithm\":\"ES256\",\"value\":\"v\"}]}}" V1_5) ≡ true
unfolding reading_on_literals serde_json_on_literals on_reports
signers_by_version_found = refl

signers_in_xml : report "{\"bomFormat\":\"CycloneDX\",\"specVersion\":\"1.5\",\"version\":1,\"components\":[{\"type\":\"library\",\"name\":\"a\",\"version\":\"1\",\"signature\":{\"signers\":[{\"algorithm\":\"ES256\",\"value\":\"v\"}]}}]}" V1_5 (xs V1_4 ∷ []) ≡ says "{\"losses\":[]}"
unfolding reading_on_literals serde_json_on_literals on_reports
signers_in_xml = refl

signers_in_xml_less : are_struck_well (xs V1_4) ([]) (bill_of "{\"bomFormat\":\"CycloneDX\",\"specVersion\":\"1.5\",\"version\":1,\"components\":[{\"type\":\"library\",\"name\":\"a\",\"version\":\"1\",\"signature\":{\"signers\":[{\"algorithm\":\"ES256\",\"value\":\"v\"}]}}]}" V1_5) ≡ true
unfolding reading_on_literals serde_json_on_literals on_reports
signers_in_xml_less = refl

signers_in_xml_found : are_found (xs V1_4 ∷ []) (bill_of "{\"bomFormat\":\"CycloneDX\",\"specVersion\":\"1.5\",\"version\":1,\"components\":[{\"type\":\"library\",\"name\":\"a\",\"version\":\"1\",\"signature\":{\"signers\":[{\"algorithm\":\"ES256\",\"value\":\"v\"}]}}]}" V1_5) ≡ true
unfolding reading_on_literals serde_json_on_literals on_reports
signers_in_xml_found = refl

licenses_of_components : report "{\"bomFormat\":\"CycloneDX\",\"specVersion\":\"1.5\",\"version\":1,\"components\":[{\"type\":\"library\",\"name\":\"a\",\"licenses\":[{\"license\":{\"bomRef\":\"l\",\"id\":\"MIT\",\"properties\":[]}},{\"expression\":\"X\",\"bomRef\":\"e\"},{\"license\":{\"name\":\"N\",\"bomRef\":\"m\"}}]}]}" V1_5 (js V1_4 ∷ []) ≡ says "{\"losses\":[{\"path\":\"/components/0/licenses/0/license/bom-ref\",\"reason\":\"version\"},{\"path\":\"/components/0/licenses/0/license/properties\",\"reason\":\"version\"},{\"path\":\"/components/0/licenses/2/license/bom-ref\",\"reason\":\"version\"}]}"
unfolding reading_on_literals serde_json_on_literals on_reports
licenses_of_components = refl

licenses_of_components_less : are_struck_well (js V1_4) ([]) (bill_of "{\"bomFormat\":\"CycloneDX\",\"specVersion\":\"1.5\",\"version\":1,\"components\":[{\"type\":\"library\",\"name\":\"a\",\"licenses\":[{\"license\":{\"bomRef\":\"l\",\"id\":\"MIT\",\"properties\":[]}},{\"expression\":\"X\",\"bomRef\":\"e\"},{\"license\":{\"name\":\"N\",\"bomRef\":\"m\"}}]}]}" V1_5) ≡ true
unfolding reading_on_literals serde_json_on_literals on_reports
licenses_of_components_less = refl

licenses_of_components_found : are_found (js V1_4 ∷ []) (bill_of "{\"bomFormat\":\"CycloneDX\",\"specVersion\":\"1.5\",\"version\":1,\"components\":[{\"type\":\"library\",\"name\":\"a\",\"licenses\":[{\"license\":{\"bomRef\":\"l\",\"id\":\"MIT\",\"properties\":[]}},{\"expression\":\"X\",\"bomRef\":\"e\"},{\"license\":{\"name\":\"N\",\"bomRef\":\"m\"}}]}]}" V1_5) ≡ true
unfolding reading_on_literals serde_json_on_literals on_reports
licenses_of_components_found = refl

licenses_of_evidence : report "{\"bomFormat\":\"CycloneDX\",\"specVersion\":\"1.5\",\"version\":1,\"components\":[{\"type\":\"library\",\"name\":\"a\",\"evidence\":{\"licenses\":[{\"license\":{\"bomRef\":\"l\",\"id\":\"MIT\",\"properties\":[]}},{\"expression\":\"X\",\"bomRef\":\"e\"},{\"license\":{\"name\":\"N\",\"bomRef\":\"m\"}}]}}]}" V1_5 (xs V1_4 ∷ []) ≡ says "{\"losses\":[{\"path\":\"/components/0/evidence/licenses/0/license/bom-ref\",\"reason\":\"version\"},{\"path\":\"/components/0/evidence/licenses/0/license/properties\",\"reason\":\"version\"},{\"path\":\"/components/0/evidence/licenses/2/license/bom-ref\",\"reason\":\"version\"}]}"
unfolding reading_on_literals serde_json_on_literals on_reports
licenses_of_evidence = refl

licenses_of_evidence_less : are_struck_well (xs V1_4) ([]) (bill_of "{\"bomFormat\":\"CycloneDX\",\"specVersion\":\"1.5\",\"version\":1,\"components\":[{\"type\":\"library\",\"name\":\"a\",\"evidence\":{\"licenses\":[{\"license\":{\"bomRef\":\"l\",\"id\":\"MIT\",\"properties\":[]}},{\"expression\":\"X\",\"bomRef\":\"e\"},{\"license\":{\"name\":\"N\",\"bomRef\":\"m\"}}]}}]}" V1_5) ≡ true
unfolding reading_on_literals serde_json_on_literals on_reports
licenses_of_evidence_less = refl

licenses_of_evidence_found : are_found (xs V1_4 ∷ []) (bill_of "{\"bomFormat\":\"CycloneDX\",\"specVersion\":\"1.5\",\"version\":1,\"components\":[{\"type\":\"library\",\"name\":\"a\",\"evidence\":{\"licenses\":[{\"license\":{\"bomRef\":\"l\",\"id\":\"MIT\",\"properties\":[]}},{\"expression\":\"X\",\"bomRef\":\"e\"},{\"license\":{\"name\":\"N\",\"bomRef\":\"m\"}}]}}]}" V1_5) ≡ true
unfolding reading_on_literals serde_json_on_literals on_reports
licenses_of_evidence_found = refl

licenses_of_metadata_and_services : report "{\"bomFormat\":\"CycloneDX\",\"specVersion\":\"1.5\",\"version\":1,\"metadata\":{\"licenses\":[{\"license\":{\"bomRef\":\"l\",\"id\":\"MIT\",\"properties\":[]}},{\"expression\":\"X\",\"bomRef\":\"e\"},{\"license\":{\"name\":\"N\",\"bomRef\":\"m\"}}]},\"services\":[{\"name\":\"s\",\"licenses\":[{\"license\":{\"bomRef\":\"l\",\"id\":\"MIT\",\"properties\":[]}},{\"expression\":\"X\",\"bomRef\":\"e\"},{\"license\":{\"name\":\"N\",\"bomRef\":\"m\"}}]}]}" V1_5 (js V1_3 ∷ []) ≡ says "{\"losses\":[{\"path\":\"/metadata/licenses/0/license/bom-ref\",\"reason\":\"version\"},{\"path\":\"/metadata/licenses/0/license/properties\",\"reason\":\"version\"},{\"path\":\"/metadata/licenses/2/license/bom-ref\",\"reason\":\"version\"},{\"path\":\"/services/0/licenses/0/license/bom-ref\",\"reason\":\"version\"},{\"path\":\"/services/0/licenses/0/license/properties\",\"reason\":\"version\"},{\"path\":\"/services/0/licenses/2/license/bom-ref\",\"reason\":\"version\"}]}"
unfolding reading_on_literals serde_json_on_literals on_reports
licenses_of_metadata_and_services = refl

licenses_of_metadata_and_services_less : are_struck_well (js V1_3) ([]) (bill_of "{\"bomFormat\":\"CycloneDX\",\"specVersion\":\"1.5\",\"version\":1,\"metadata\":{\"licenses\":[{\"license\":{\"bomRef\":\"l\",\"id\":\"MIT\",\"properties\":[]}},{\"expression\":\"X\",\"bomRef\":\"e\"},{\"license\":{\"name\":\"N\",\"bomRef\":\"m\"}}]},\"services\":[{\"name\":\"s\",\"licenses\":[{\"license\":{\"bomRef\":\"l\",\"id\":\"MIT\",\"properties\":[]}},{\"expression\":\"X\",\"bomRef\":\"e\"},{\"license\":{\"name\":\"N\",\"bomRef\":\"m\"}}]}]}" V1_5) ≡ true
unfolding reading_on_literals serde_json_on_literals on_reports
licenses_of_metadata_and_services_less = refl

licenses_of_metadata_and_services_found : are_found (js V1_3 ∷ []) (bill_of "{\"bomFormat\":\"CycloneDX\",\"specVersion\":\"1.5\",\"version\":1,\"metadata\":{\"licenses\":[{\"license\":{\"bomRef\":\"l\",\"id\":\"MIT\",\"properties\":[]}},{\"expression\":\"X\",\"bomRef\":\"e\"},{\"license\":{\"name\":\"N\",\"bomRef\":\"m\"}}]},\"services\":[{\"name\":\"s\",\"licenses\":[{\"license\":{\"bomRef\":\"l\",\"id\":\"MIT\",\"properties\":[]}},{\"expression\":\"X\",\"bomRef\":\"e\"},{\"license\":{\"name\":\"N\",\"bomRef\":\"m\"}}]}]}" V1_5) ≡ true
unfolding reading_on_literals serde_json_on_literals on_reports
licenses_of_metadata_and_services_found = refl

licenses_in_1_5 : report "{\"bomFormat\":\"CycloneDX\",\"specVersion\":\"1.5\",\"version\":1,\"components\":[{\"type\":\"library\",\"name\":\"a\",\"licenses\":[{\"license\":{\"bomRef\":\"l\",\"id\":\"MIT\",\"properties\":[]}},{\"expression\":\"X\",\"bomRef\":\"e\"},{\"license\":{\"name\":\"N\",\"bomRef\":\"m\"}}]}]}" V1_5 (xs V1_5 ∷ []) ≡ says "{\"losses\":[]}"
unfolding reading_on_literals serde_json_on_literals on_reports
licenses_in_1_5 = refl

licenses_in_1_5_less : are_struck_well (xs V1_5) ([]) (bill_of "{\"bomFormat\":\"CycloneDX\",\"specVersion\":\"1.5\",\"version\":1,\"components\":[{\"type\":\"library\",\"name\":\"a\",\"licenses\":[{\"license\":{\"bomRef\":\"l\",\"id\":\"MIT\",\"properties\":[]}},{\"expression\":\"X\",\"bomRef\":\"e\"},{\"license\":{\"name\":\"N\",\"bomRef\":\"m\"}}]}]}" V1_5) ≡ true
unfolding reading_on_literals serde_json_on_literals on_reports
licenses_in_1_5_less = refl

licenses_in_1_5_found : are_found (xs V1_5 ∷ []) (bill_of "{\"bomFormat\":\"CycloneDX\",\"specVersion\":\"1.5\",\"version\":1,\"components\":[{\"type\":\"library\",\"name\":\"a\",\"licenses\":[{\"license\":{\"bomRef\":\"l\",\"id\":\"MIT\",\"properties\":[]}},{\"expression\":\"X\",\"bomRef\":\"e\"},{\"license\":{\"name\":\"N\",\"bomRef\":\"m\"}}]}]}" V1_5) ≡ true
unfolding reading_on_literals serde_json_on_literals on_reports
licenses_in_1_5_found = refl

compositions : report "{\"bomFormat\":\"CycloneDX\",\"specVersion\":\"1.5\",\"version\":1,\"compositions\":[{\"aggregate\":\"a\"},{\"bomRef\":\"c\",\"aggregate\":\"b\",\"vulnerabilities\":[\"v\"],\"signature\":{\"algorithm\":\"ES256\",\"value\":\"v\"}}]}" V1_5 (js V1_3 ∷ []) ≡ says "{\"losses\":[{\"path\":\"/compositions/1/bom-ref\",\"reason\":\"version\"},{\"path\":\"/compositions/1/vulnerabilities\",\"reason\":\"version\"},{\"path\":\"/compositions/1/signature\",\"reason\":\"version\"}]}"
unfolding reading_on_literals serde_json_on_literals on_reports
compositions = refl

compositions_less : are_struck_well (js V1_3) ([]) (bill_of "{\"bomFormat\":\"CycloneDX\",\"specVersion\":\"1.5\",\"version\":1,\"compositions\":[{\"aggregate\":\"a\"},{\"bomRef\":\"c\",\"aggregate\":\"b\",\"vulnerabilities\":[\"v\"],\"signature\":{\"algorithm\":\"ES256\",\"value\":\"v\"}}]}" V1_5) ≡ true
unfolding reading_on_literals serde_json_on_literals on_reports
compositions_less = refl

compositions_found : are_found (js V1_3 ∷ []) (bill_of "{\"bomFormat\":\"CycloneDX\",\"specVersion\":\"1.5\",\"version\":1,\"compositions\":[{\"aggregate\":\"a\"},{\"bomRef\":\"c\",\"aggregate\":\"b\",\"vulnerabilities\":[\"v\"],\"signature\":{\"algorithm\":\"ES256\",\"value\":\"v\"}}]}" V1_5) ≡ true
unfolding reading_on_literals serde_json_on_literals on_reports
compositions_found = refl

compositions_in_1_4 : report "{\"bomFormat\":\"CycloneDX\",\"specVersion\":\"1.5\",\"version\":1,\"compositions\":[{\"bomRef\":\"c\",\"aggregate\":\"b\",\"vulnerabilities\":[\"v\"],\"signature\":{\"algorithm\":\"ES256\",\"value\":\"v\"}}]}" V1_5 (xs V1_4 ∷ []) ≡ says "{\"losses\":[{\"path\":\"/compositions/0/bom-ref\",\"reason\":\"version\"},{\"path\":\"/compositions/0/vulnerabilities\",\"reason\":\"version\"}]}"
unfolding reading_on_literals serde_json_on_literals on_reports
compositions_in_1_4 = refl

compositions_in_1_4_less : are_struck_well (xs V1_4) ([]) (bill_of "{\"bomFormat\":\"CycloneDX\",\"specVersion\":\"1.5\",\"version\":1,\"compositions\":[{\"bomRef\":\"c\",\"aggregate\":\"b\",\"vulnerabilities\":[\"v\"],\"signature\":{\"algorithm\":\"ES256\",\"value\":\"v\"}}]}" V1_5) ≡ true
unfolding reading_on_literals serde_json_on_literals on_reports
compositions_in_1_4_less = refl

compositions_in_1_4_found : are_found (xs V1_4 ∷ []) (bill_of "{\"bomFormat\":\"CycloneDX\",\"specVersion\":\"1.5\",\"version\":1,\"compositions\":[{\"bomRef\":\"c\",\"aggregate\":\"b\",\"vulnerabilities\":[\"v\"],\"signature\":{\"algorithm\":\"ES256\",\"value\":\"v\"}}]}" V1_5) ≡ true
unfolding reading_on_literals serde_json_on_literals on_reports
compositions_in_1_4_found = refl

references_of_tools : report "{\"bomFormat\":\"CycloneDX\",\"specVersion\":\"1.5\",\"version\":1,\"metadata\":{\"tools\":[{\"name\":\"t\"},{\"externalReferences\":[{\"type\":\"t\",\"url\":\"u\"}]}]}}" V1_5 (js V1_3 ∷ []) ≡ says "{\"losses\":[{\"path\":\"/metadata/tools/1/externalReferences\",\"reason\":\"version\"}]}"
unfolding reading_on_literals serde_json_on_literals on_reports
references_of_tools = refl

references_of_tools_less : are_struck_well (js V1_3) ([]) (bill_of "{\"bomFormat\":\"CycloneDX\",\"specVersion\":\"1.5\",\"version\":1,\"metadata\":{\"tools\":[{\"name\":\"t\"},{\"externalReferences\":[{\"type\":\"t\",\"url\":\"u\"}]}]}}" V1_5) ≡ true
unfolding reading_on_literals serde_json_on_literals on_reports
references_of_tools_less = refl

references_of_tools_found : are_found (js V1_3 ∷ []) (bill_of "{\"bomFormat\":\"CycloneDX\",\"specVersion\":\"1.5\",\"version\":1,\"metadata\":{\"tools\":[{\"name\":\"t\"},{\"externalReferences\":[{\"type\":\"t\",\"url\":\"u\"}]}]}}" V1_5) ≡ true
unfolding reading_on_literals serde_json_on_literals on_reports
references_of_tools_found = refl

references_of_tools_in_1_4 : report "{\"bomFormat\":\"CycloneDX\",\"specVersion\":\"1.5\",\"version\":1,\"metadata\":{\"tools\":[{\"externalReferences\":[]}]}}" V1_5 (js V1_4 ∷ []) ≡ says "{\"losses\":[]}"
unfolding reading_on_literals serde_json_on_literals on_reports
references_of_tools_in_1_4 = refl

references_of_tools_in_1_4_less : are_struck_well (js V1_4) ([]) (bill_of "{\"bomFormat\":\"CycloneDX\",\"specVersion\":\"1.5\",\"version\":1,\"metadata\":{\"tools\":[{\"externalReferences\":[]}]}}" V1_5) ≡ true
unfolding reading_on_literals serde_json_on_literals on_reports
references_of_tools_in_1_4_less = refl

references_of_tools_in_1_4_found : are_found (js V1_4 ∷ []) (bill_of "{\"bomFormat\":\"CycloneDX\",\"specVersion\":\"1.5\",\"version\":1,\"metadata\":{\"tools\":[{\"externalReferences\":[]}]}}" V1_5) ≡ true
unfolding reading_on_literals serde_json_on_literals on_reports
references_of_tools_in_1_4_found = refl

tools_in_xml : report "{\"bomFormat\":\"CycloneDX\",\"specVersion\":\"1.5\",\"version\":1,\"metadata\":{\"tools\":{\"services\":[{\"name\":\"s\",\"provider\":{\"url\":[]},\"trustZone\":\"z\"}],\"components\":[{\"type\":\"library\",\"name\":\"a\",\"supplier\":{}}]}}}" V1_5 (xs V1_5 ∷ []) ≡ says "{\"losses\":[{\"path\":\"/metadata/tools/services/0/provider/url\",\"reason\":\"xml\"},{\"path\":\"/metadata/tools/components/0/supplier\",\"reason\":\"xml\"}]}"
unfolding reading_on_literals serde_json_on_literals on_reports
tools_in_xml = refl

tools_in_xml_less : are_struck_well (xs V1_5) ([]) (bill_of "{\"bomFormat\":\"CycloneDX\",\"specVersion\":\"1.5\",\"version\":1,\"metadata\":{\"tools\":{\"services\":[{\"name\":\"s\",\"provider\":{\"url\":[]},\"trustZone\":\"z\"}],\"components\":[{\"type\":\"library\",\"name\":\"a\",\"supplier\":{}}]}}}" V1_5) ≡ true
unfolding reading_on_literals serde_json_on_literals on_reports
tools_in_xml_less = refl

tools_in_xml_found : are_found (xs V1_5 ∷ []) (bill_of "{\"bomFormat\":\"CycloneDX\",\"specVersion\":\"1.5\",\"version\":1,\"metadata\":{\"tools\":{\"services\":[{\"name\":\"s\",\"provider\":{\"url\":[]},\"trustZone\":\"z\"}],\"components\":[{\"type\":\"library\",\"name\":\"a\",\"supplier\":{}}]}}}" V1_5) ≡ true
unfolding reading_on_literals serde_json_on_literals on_reports
tools_in_xml_found = refl

tools_before_1_5 : report "{\"bomFormat\":\"CycloneDX\",\"specVersion\":\"1.5\",\"version\":1,\"metadata\":{\"tools\":{\"services\":[{\"name\":\"s\",\"provider\":{\"url\":[]},\"trustZone\":\"z\"}],\"components\":[{\"type\":\"library\",\"name\":\"a\",\"supplier\":{}}]}}}" V1_5 (xs V1_5 ∷ js V1_4 ∷ []) ≡ says "{\"losses\":[{\"path\":\"/metadata/tools\",\"reason\":\"tools\"}]}"
unfolding reading_on_literals serde_json_on_literals on_reports
tools_before_1_5 = refl

tools_before_1_5_less : are_struck_well (xs V1_5) (js V1_4 ∷ []) (bill_of "{\"bomFormat\":\"CycloneDX\",\"specVersion\":\"1.5\",\"version\":1,\"metadata\":{\"tools\":{\"services\":[{\"name\":\"s\",\"provider\":{\"url\":[]},\"trustZone\":\"z\"}],\"components\":[{\"type\":\"library\",\"name\":\"a\",\"supplier\":{}}]}}}" V1_5) ≡ true
unfolding reading_on_literals serde_json_on_literals on_reports
tools_before_1_5_less = refl

tools_before_1_5_found : are_found (xs V1_5 ∷ js V1_4 ∷ []) (bill_of "{\"bomFormat\":\"CycloneDX\",\"specVersion\":\"1.5\",\"version\":1,\"metadata\":{\"tools\":{\"services\":[{\"name\":\"s\",\"provider\":{\"url\":[]},\"trustZone\":\"z\"}],\"components\":[{\"type\":\"library\",\"name\":\"a\",\"supplier\":{}}]}}}" V1_5) ≡ true
unfolding reading_on_literals serde_json_on_literals on_reports
tools_before_1_5_found = refl

tools_before_1_4 : report "{\"bomFormat\":\"CycloneDX\",\"specVersion\":\"1.5\",\"version\":1,\"metadata\":{\"tools\":{\"components\":[{\"type\":\"library\",\"name\":\"a\"}]}}}" V1_5 (js V1_3 ∷ []) ≡ says "{\"losses\":[{\"path\":\"/metadata/tools\",\"reason\":\"tools\"}]}"
unfolding reading_on_literals serde_json_on_literals on_reports
tools_before_1_4 = refl

tools_before_1_4_less : are_struck_well (js V1_3) ([]) (bill_of "{\"bomFormat\":\"CycloneDX\",\"specVersion\":\"1.5\",\"version\":1,\"metadata\":{\"tools\":{\"components\":[{\"type\":\"library\",\"name\":\"a\"}]}}}" V1_5) ≡ true
unfolding reading_on_literals serde_json_on_literals on_reports
tools_before_1_4_less = refl

tools_before_1_4_found : are_found (js V1_3 ∷ []) (bill_of "{\"bomFormat\":\"CycloneDX\",\"specVersion\":\"1.5\",\"version\":1,\"metadata\":{\"tools\":{\"components\":[{\"type\":\"library\",\"name\":\"a\"}]}}}" V1_5) ≡ true
unfolding reading_on_literals serde_json_on_literals on_reports
tools_before_1_4_found = refl

tools_with_an_empty_part : report "{\"bomFormat\":\"CycloneDX\",\"specVersion\":\"1.5\",\"version\":1,\"metadata\":{\"tools\":{\"services\":[]}}}" V1_5 (js V1_4 ∷ []) ≡ says "{\"losses\":[{\"path\":\"/metadata/tools\",\"reason\":\"tools\"}]}"
unfolding reading_on_literals serde_json_on_literals on_reports
tools_with_an_empty_part = refl

tools_with_an_empty_part_less : are_struck_well (js V1_4) ([]) (bill_of "{\"bomFormat\":\"CycloneDX\",\"specVersion\":\"1.5\",\"version\":1,\"metadata\":{\"tools\":{\"services\":[]}}}" V1_5) ≡ true
unfolding reading_on_literals serde_json_on_literals on_reports
tools_with_an_empty_part_less = refl

tools_with_an_empty_part_found : are_found (js V1_4 ∷ []) (bill_of "{\"bomFormat\":\"CycloneDX\",\"specVersion\":\"1.5\",\"version\":1,\"metadata\":{\"tools\":{\"services\":[]}}}" V1_5) ≡ true
unfolding reading_on_literals serde_json_on_literals on_reports
tools_with_an_empty_part_found = refl

tools_without_parts : report "{\"bomFormat\":\"CycloneDX\",\"specVersion\":\"1.5\",\"version\":1,\"metadata\":{\"tools\":{}}}" V1_5 (xs V1_3 ∷ []) ≡ says "{\"losses\":[]}"
unfolding reading_on_literals serde_json_on_literals on_reports
tools_without_parts = refl

tools_without_parts_less : are_struck_well (xs V1_3) ([]) (bill_of "{\"bomFormat\":\"CycloneDX\",\"specVersion\":\"1.5\",\"version\":1,\"metadata\":{\"tools\":{}}}" V1_5) ≡ true
unfolding reading_on_literals serde_json_on_literals on_reports
tools_without_parts_less = refl

tools_without_parts_found : are_found (xs V1_3 ∷ []) (bill_of "{\"bomFormat\":\"CycloneDX\",\"specVersion\":\"1.5\",\"version\":1,\"metadata\":{\"tools\":{}}}" V1_5) ≡ true
unfolding reading_on_literals serde_json_on_literals on_reports
tools_without_parts_found = refl

tool_list_without_tools : report "{\"bomFormat\":\"CycloneDX\",\"specVersion\":\"1.5\",\"version\":1,\"metadata\":{\"tools\":[]}}" V1_5 (xs V1_3 ∷ []) ≡ says "{\"losses\":[]}"
unfolding reading_on_literals serde_json_on_literals on_reports
tool_list_without_tools = refl

tool_list_without_tools_less : are_struck_well (xs V1_3) ([]) (bill_of "{\"bomFormat\":\"CycloneDX\",\"specVersion\":\"1.5\",\"version\":1,\"metadata\":{\"tools\":[]}}" V1_5) ≡ true
unfolding reading_on_literals serde_json_on_literals on_reports
tool_list_without_tools_less = refl

tool_list_without_tools_found : are_found (xs V1_3 ∷ []) (bill_of "{\"bomFormat\":\"CycloneDX\",\"specVersion\":\"1.5\",\"version\":1,\"metadata\":{\"tools\":[]}}" V1_5) ≡ true
unfolding reading_on_literals serde_json_on_literals on_reports
tool_list_without_tools_found = refl

flows : report "{\"bomFormat\":\"CycloneDX\",\"specVersion\":\"1.5\",\"version\":1,\"services\":[{\"name\":\"s\",\"trustZone\":\"z\",\"data\":[{\"flow\":\"f\",\"classification\":\"c\"},{\"flow\":\"f\",\"classification\":\"c\",\"name\":\"n\"},{\"flow\":\"g\",\"classification\":\"d\",\"description\":\"\"}]}]}" V1_5 (js V1_4 ∷ []) ≡ says "{\"losses\":[{\"path\":\"/services/0/data/1\",\"reason\":\"flow\"},{\"path\":\"/services/0/data/2\",\"reason\":\"flow\"},{\"path\":\"/services/0/trustZone\",\"reason\":\"version\"}]}"
unfolding reading_on_literals serde_json_on_literals on_reports
flows = refl

flows_less : are_struck_well (js V1_4) ([]) (bill_of "{\"bomFormat\":\"CycloneDX\",\"specVersion\":\"1.5\",\"version\":1,\"services\":[{\"name\":\"s\",\"trustZone\":\"z\",\"data\":[{\"flow\":\"f\",\"classification\":\"c\"},{\"flow\":\"f\",\"classification\":\"c\",\"name\":\"n\"},{\"flow\":\"g\",\"classification\":\"d\",\"description\":\"\"}]}]}" V1_5) ≡ true
unfolding reading_on_literals serde_json_on_literals on_reports
flows_less = refl

flows_found : are_found (js V1_4 ∷ []) (bill_of "{\"bomFormat\":\"CycloneDX\",\"specVersion\":\"1.5\",\"version\":1,\"services\":[{\"name\":\"s\",\"trustZone\":\"z\",\"data\":[{\"flow\":\"f\",\"classification\":\"c\"},{\"flow\":\"f\",\"classification\":\"c\",\"name\":\"n\"},{\"flow\":\"g\",\"classification\":\"d\",\"description\":\"\"}]}]}" V1_5) ≡ true
unfolding reading_on_literals serde_json_on_literals on_reports
flows_found = refl

flows_in_1_5 : report "{\"bomFormat\":\"CycloneDX\",\"specVersion\":\"1.5\",\"version\":1,\"services\":[{\"name\":\"s\",\"trustZone\":\"z\",\"data\":[{\"flow\":\"f\",\"classification\":\"c\"},{\"flow\":\"f\",\"classification\":\"c\",\"name\":\"n\"},{\"flow\":\"g\",\"classification\":\"d\",\"description\":\"\"}]}]}" V1_5 (xs V1_5 ∷ []) ≡ says "{\"losses\":[]}"
unfolding reading_on_literals serde_json_on_literals on_reports
flows_in_1_5 = refl

flows_in_1_5_less : are_struck_well (xs V1_5) ([]) (bill_of "{\"bomFormat\":\"CycloneDX\",\"specVersion\":\"1.5\",\"version\":1,\"services\":[{\"name\":\"s\",\"trustZone\":\"z\",\"data\":[{\"flow\":\"f\",\"classification\":\"c\"},{\"flow\":\"f\",\"classification\":\"c\",\"name\":\"n\"},{\"flow\":\"g\",\"classification\":\"d\",\"description\":\"\"}]}]}" V1_5) ≡ true
unfolding reading_on_literals serde_json_on_literals on_reports
flows_in_1_5_less = refl

flows_in_1_5_found : are_found (xs V1_5 ∷ []) (bill_of "{\"bomFormat\":\"CycloneDX\",\"specVersion\":\"1.5\",\"version\":1,\"services\":[{\"name\":\"s\",\"trustZone\":\"z\",\"data\":[{\"flow\":\"f\",\"classification\":\"c\"},{\"flow\":\"f\",\"classification\":\"c\",\"name\":\"n\"},{\"flow\":\"g\",\"classification\":\"d\",\"description\":\"\"}]}]}" V1_5) ≡ true
unfolding reading_on_literals serde_json_on_literals on_reports
flows_in_1_5_found = refl

flows_of_nested_services : report "{\"bomFormat\":\"CycloneDX\",\"specVersion\":\"1.5\",\"version\":1,\"services\":[{\"name\":\"s\",\"services\":[{\"name\":\"t\",\"data\":[{\"flow\":\"f\",\"classification\":\"c\"},{\"flow\":\"f\",\"classification\":\"c\",\"name\":\"n\"},{\"flow\":\"g\",\"classification\":\"d\",\"description\":\"\"}]}]}]}" V1_5 (xs V1_3 ∷ []) ≡ says "{\"losses\":[{\"path\":\"/services/0/services/0/data/1\",\"reason\":\"flow\"},{\"path\":\"/services/0/services/0/data/2\",\"reason\":\"flow\"}]}"
unfolding reading_on_literals serde_json_on_literals on_reports
flows_of_nested_services = refl

flows_of_nested_services_less : are_struck_well (xs V1_3) ([]) (bill_of "{\"bomFormat\":\"CycloneDX\",\"specVersion\":\"1.5\",\"version\":1,\"services\":[{\"name\":\"s\",\"services\":[{\"name\":\"t\",\"data\":[{\"flow\":\"f\",\"classification\":\"c\"},{\"flow\":\"f\",\"classification\":\"c\",\"name\":\"n\"},{\"flow\":\"g\",\"classification\":\"d\",\"description\":\"\"}]}]}]}" V1_5) ≡ true
unfolding reading_on_literals serde_json_on_literals on_reports
flows_of_nested_services_less = refl

flows_of_nested_services_found : are_found (xs V1_3 ∷ []) (bill_of "{\"bomFormat\":\"CycloneDX\",\"specVersion\":\"1.5\",\"version\":1,\"services\":[{\"name\":\"s\",\"services\":[{\"name\":\"t\",\"data\":[{\"flow\":\"f\",\"classification\":\"c\"},{\"flow\":\"f\",\"classification\":\"c\",\"name\":\"n\"},{\"flow\":\"g\",\"classification\":\"d\",\"description\":\"\"}]}]}]}" V1_5) ≡ true
unfolding reading_on_literals serde_json_on_literals on_reports
flows_of_nested_services_found = refl

properties_of_the_bill : report "{\"bomFormat\":\"CycloneDX\",\"specVersion\":\"1.5\",\"version\":1,\"properties\":[{\"name\":\"n\",\"value\":\"v\"}]}" V1_5 (js V1_5 ∷ js V1_4 ∷ js V1_5 ∷ []) ≡ says "{\"losses\":[{\"path\":\"/properties\",\"reason\":\"version\"}]}"
unfolding reading_on_literals serde_json_on_literals on_reports
properties_of_the_bill = refl

properties_of_the_bill_less : are_struck_well (js V1_5) (js V1_4 ∷ js V1_5 ∷ []) (bill_of "{\"bomFormat\":\"CycloneDX\",\"specVersion\":\"1.5\",\"version\":1,\"properties\":[{\"name\":\"n\",\"value\":\"v\"}]}" V1_5) ≡ true
unfolding reading_on_literals serde_json_on_literals on_reports
properties_of_the_bill_less = refl

properties_of_the_bill_found : are_found (js V1_5 ∷ js V1_4 ∷ js V1_5 ∷ []) (bill_of "{\"bomFormat\":\"CycloneDX\",\"specVersion\":\"1.5\",\"version\":1,\"properties\":[{\"name\":\"n\",\"value\":\"v\"}]}" V1_5) ≡ true
unfolding reading_on_literals serde_json_on_literals on_reports
properties_of_the_bill_found = refl

two_losses_on_one_way : report "{\"bomFormat\":\"CycloneDX\",\"specVersion\":\"1.5\",\"version\":1,\"components\":[{\"type\":\"library\",\"name\":\"a\",\"version\":\"1\",\"supplier\":{\"url\":[]},\"signature\":{\"algorithm\":\"ES256\",\"value\":\"v\"},\"evidence\":{}}]}" V1_5 (xs V1_5 ∷ js V1_3 ∷ []) ≡ says "{\"losses\":[{\"path\":\"/components/0/supplier/url\",\"reason\":\"xml\"},{\"path\":\"/components/0/evidence\",\"reason\":\"xml\"},{\"path\":\"/components/0/signature\",\"reason\":\"version\"}]}"
unfolding reading_on_literals serde_json_on_literals on_reports
two_losses_on_one_way = refl

two_losses_on_one_way_less : are_struck_well (xs V1_5) (js V1_3 ∷ []) (bill_of "{\"bomFormat\":\"CycloneDX\",\"specVersion\":\"1.5\",\"version\":1,\"components\":[{\"type\":\"library\",\"name\":\"a\",\"version\":\"1\",\"supplier\":{\"url\":[]},\"signature\":{\"algorithm\":\"ES256\",\"value\":\"v\"},\"evidence\":{}}]}" V1_5) ≡ true
unfolding reading_on_literals serde_json_on_literals on_reports
two_losses_on_one_way_less = refl

two_losses_on_one_way_found : are_found (xs V1_5 ∷ js V1_3 ∷ []) (bill_of "{\"bomFormat\":\"CycloneDX\",\"specVersion\":\"1.5\",\"version\":1,\"components\":[{\"type\":\"library\",\"name\":\"a\",\"version\":\"1\",\"supplier\":{\"url\":[]},\"signature\":{\"algorithm\":\"ES256\",\"value\":\"v\"},\"evidence\":{}}]}" V1_5) ≡ true
unfolding reading_on_literals serde_json_on_literals on_reports
two_losses_on_one_way_found = refl

nothing_of_a_full_bill : report "{\"bomFormat\":\"CycloneDX\",\"specVersion\":\"1.5\",\"version\":1,\"serialNumber\":\"U\",\"dependencies\":[{\"ref\":\"a\",\"dependsOn\":[]},{\"ref\":\"b\",\"dependsOn\":[\"a\"]}],\"externalReferences\":[{\"type\":\"t\",\"url\":\"u\",\"hashes\":[]}]}" V1_5 (xs V1_3 ∷ xs V1_3 ∷ []) ≡ says "{\"losses\":[]}"
unfolding reading_on_literals serde_json_on_literals on_reports
nothing_of_a_full_bill = refl

nothing_of_a_full_bill_less : are_struck_well (xs V1_3) (xs V1_3 ∷ []) (bill_of "{\"bomFormat\":\"CycloneDX\",\"specVersion\":\"1.5\",\"version\":1,\"serialNumber\":\"U\",\"dependencies\":[{\"ref\":\"a\",\"dependsOn\":[]},{\"ref\":\"b\",\"dependsOn\":[\"a\"]}],\"externalReferences\":[{\"type\":\"t\",\"url\":\"u\",\"hashes\":[]}]}" V1_5) ≡ true
unfolding reading_on_literals serde_json_on_literals on_reports
nothing_of_a_full_bill_less = refl

nothing_of_a_full_bill_found : are_found (xs V1_3 ∷ xs V1_3 ∷ []) (bill_of "{\"bomFormat\":\"CycloneDX\",\"specVersion\":\"1.5\",\"version\":1,\"serialNumber\":\"U\",\"dependencies\":[{\"ref\":\"a\",\"dependsOn\":[]},{\"ref\":\"b\",\"dependsOn\":[\"a\"]}],\"externalReferences\":[{\"type\":\"t\",\"url\":\"u\",\"hashes\":[]}]}" V1_5) ≡ true
unfolding reading_on_literals serde_json_on_literals on_reports
nothing_of_a_full_bill_found = refl

-- a service's data, read from XML
flows_from_xml : report_of (xml_bill (bom V1_5 (at "version" "1" ∷ []) (
    tag "services" (tag "service" (tag "name" (txt "s" ⊳ no_nodes) ⊳ tag "data" (
    el "classification" (at "flow" "inbound" ∷ []) (txt "PII" ⊳ no_nodes)
    ⊳ el "dataflow" (at "name" "n" ∷ []) (el "classification" (at "flow" "outbound" ∷ []) (txt "public" ⊳ no_nodes) ⊳ no_nodes)
    ⊳ el "classification" (at "flow" "unknown" ∷ []) (txt "x" ⊳ no_nodes)
    ⊳ no_nodes) ⊳ no_nodes) ⊳ no_nodes) ⊳ no_nodes)) V1_5) (js V1_4 ∷ []) ≡ says "{\"losses\":[{\"path\":\"/services/0/data/0\",\"reason\":\"flow\"}]}"
unfolding reading_on_literals serde_json_on_literals on_reports
flows_from_xml = refl

-- a component without a version doesn't fit 1.3
not_fitting : option_map (fits_all (js V1_3 ∷ [])) (bill_of "{\"bomFormat\":\"CycloneDX\",\"specVersion\":\"1.5\",\"version\":1,\"components\":[{\"type\":\"library\",\"name\":\"a\"}]}" V1_5) ≡ Some false
unfolding reading_on_literals serde_json_on_literals on_reports
not_fitting = refl
