-- What a new file takes from the old one.
use Rattle.std.proofs.Common.{◌≡◌, Bool, List, [], ◌∷◌, map, refl, ap, ◌∙◌, codes}
use Rattle.std.specs.Prelude.{option_and_then}
use Rattle.sarif_model.specs.Run.{elements_or_none}
use Rattle.json.specs.Token.{Token}
use Rattle.serde_json.specs.Data.{Data}
use Rattle.serde_json.specs.Find.{get, as_array}
use Rattle.json_parts.specs.Indexed.{data_of}
use Rattle.sarif_accept.specs.Keeping.{chosen}
use Rattle.sarif_accept.specs.NewFile.{entry_in, entries_in}

each_value : (nodes : List (List Token)) → map (λ ts. entry_in (data_of ts)) nodes ≡ map entry_in (map data_of nodes)
each_value [] = refl
each_value (node ∷ nodes) = ap (λ l. entry_in (data_of node) ∷ l) (each_value nodes)

pub nodes_are : (nodes : List (List Token)) (d : Data)
    → map data_of nodes ≡ elements_or_none (option_and_then as_array (get (codes "suppressions") d))
    → map (λ ts. entry_in (data_of ts)) nodes ≡ entries_in d
nodes_are nodes d are = each_value nodes ∙ ap (map entry_in) are

pub chosen_of_nodes : (values : List Data) (marks : List Bool) (nodes : List (List Token)) (d : Data)
    → values ≡ chosen marks (map (λ ts. entry_in (data_of ts)) nodes)
    → map data_of nodes ≡ elements_or_none (option_and_then as_array (get (codes "suppressions") d))
    → values ≡ chosen marks (entries_in d)
chosen_of_nodes values marks nodes d is are = is ∙ ap (chosen marks) (nodes_are nodes d are)

pub none_chosen : (marks : List Bool) → [] ≡ chosen {A = Data} marks []
none_chosen [] = refl
none_chosen (mark ∷ marks) = refl
