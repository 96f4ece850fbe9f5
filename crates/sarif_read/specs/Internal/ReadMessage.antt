-- What reports read from the message of a result (SARIF 2.1.0, "message object").
use Rattle.std.specs.Prelude.{◌≡◌, map}
use Rattle.serde_json.specs.Data.{Data}
use Rattle.serde_json.specs.View.{view}
use Rattle.sarif_model.specs.Internal.References.{IsMessageReference, arguments_in}
use Rattle.sarif_read.specs.declared.read_message.ReadMessage.{ReadMessage}

-- whether this was read from that result
abbrev pub IsReadMessage : Data → ReadMessage → Type 0
IsReadMessage result message =
    IsMessageReference message.reference result
    × (map view message.arguments.items ≡ arguments_in result)
