-- The message of a result (SARIF 2.1.0, "Messages with embedded links", "Messages with placeholders", "Message string
-- lookup"). Strings are lists of characters here.
use Rattle.std.specs.Prelude.{ℕ, List, [], Option, Some, None, codes, chars, option_and_then, unwrap_or, is_some, if◌then◌else◌}
use Rattle.std.specs.Option.{option_or}
use Rattle.sarif_model.specs.Members.{text_in}
use Rattle.serde_json.specs.Data.{Data}
use Rattle.serde_json.specs.Find.{get}
use Rattle.sarif_findings.specs.Links.{unlinked}
use Rattle.sarif_findings.specs.Lookup.{elements_in, descriptor_of, component_of, driver_of}
use Rattle.sarif_findings.specs.Placeholders.{filled}

-- ---- the text

-- the text of the member of that name of a table of message strings
abbrev pub string_named : List ℕ → List ℕ → Data → Option (List ℕ)
string_named table name d =
    option_and_then (text_in (codes "text")) (option_and_then (get name) (get table d))

-- the string with that name in a descriptor
abbrev pub descriptor_string : List ℕ → Option Data → Option (List ℕ)
descriptor_string name descriptor =
    option_and_then (string_named (codes "messageStrings") name) descriptor

-- the string with that name in a component
abbrev pub component_string : List ℕ → Option Data → Option (List ℕ)
component_string name component =
    option_and_then (string_named (codes "globalMessageStrings") name) component

-- the component whose strings a message may be one of: its rule's, if the rule has a descriptor, otherwise the driver
abbrev pub strings_by : Data → Option Data → Option Data → Option Data
strings_by run descriptor component = if is_some descriptor then component else driver_of run

abbrev pub strings_of : Data → Data → Option Data
strings_of run result = strings_by run (descriptor_of run result) (component_of run result)

-- the string with that name in the descriptor, otherwise in the component
abbrev pub looked_up : Data → Data → List ℕ → Option (List ℕ)
looked_up run result name =
    option_or (descriptor_string name (descriptor_of run result))
    (component_string name (strings_of run result))

-- the message's own text, otherwise the string that its id names
abbrev pub text_by : Data → Data → Data → Option (List ℕ)
text_by run result message =
    option_or (text_in (codes "text") message)
    (option_and_then (looked_up run result) (text_in (codes "id") message))

abbrev pub found_text : Data → Data → Option (List ℕ)
found_text run result = option_and_then (text_by run result) (get (codes "message") result)

-- the text with its placeholders
abbrev pub message_text : Data → Data → List ℕ
message_text run result = unwrap_or (found_text run result) []

abbrev pub arguments_in : Option Data → List Data
arguments_in None = []
arguments_in (Some message) = elements_in (codes "arguments") message

abbrev pub arguments_of : Data → List Data
arguments_of result = arguments_in (get (codes "message") result)

-- links are read before placeholders, so no argument makes a link
abbrev pub message_of : Data → Data → List ℕ
message_of run result =
    filled (arguments_of result)
    (unlinked (arguments_of result) (chars (message_text run result)))
