-- What contracts see of a shape.
use Rattle.json.specs.Json as json
use Rattle.json.specs.Json.{Json}
use Rattle.json_table.specs.declared.node.Shape.{Shape}
use Rattle.json_table.specs.declared.node.Shape.TheVariants.{Null, Boolean, Number, String, Array, Object}

-- The value that a shape is of.
abbrev pub shape_view : Shape → Json
shape_view Null = json.null
shape_view (Boolean b) = json.boolean b
shape_view (Number s) = json.number s.now
shape_view (String s) = json.string s.now
shape_view (Array items) = json.array items
shape_view (Object members) = json.object members
