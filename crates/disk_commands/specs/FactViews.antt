-- What contracts see of facts whose names and words are lent.
use Rattle.std.specs.Prelude.{◌≡◌, List, [], ◌∷◌, ◌++◌, map}
use Rattle.disk_commands.specs.declared.inspecting.fact.Scalar.{Scalar as LentScalar}
use Rattle.disk_commands.specs.declared.inspecting.fact.Scalar.TheVariants as scalar
use Rattle.disk_commands.specs.declared.inspecting.fact.Field.{Field as LentField}
use Rattle.disk_commands.specs.declared.inspecting.fact.FactValue.{FactValue as LentValue}
use Rattle.disk_commands.specs.declared.inspecting.fact.FactValue.TheVariants as value
use Rattle.disk_commands.specs.declared.inspecting.fact.Fact.{Fact as LentFact}
use Rattle.disk_commands.specs.declared.inspecting.fact.Fact.TheVariants as fact
use Rattle.disk_commands.specs.rules.Facts.{Scalar, Number, Word, Text, Field, FactValue, Plain}
use Rattle.disk_commands.specs.rules.Facts.{Tagged, Fields, Fact, Single, Listed}

-- a scalar, with the bytes that are lent
abbrev pub scalar_of : LentScalar → Scalar
scalar_of (scalar.Number n) = Number n
scalar_of (scalar.Word word) = Word word.now
scalar_of (scalar.Text text) = Text text.now

-- a named part
abbrev pub field_of : LentField → Field
field_of f = (f.name.now, scalar_of f.scalar)

-- a value
abbrev pub fact_value_of : LentValue → FactValue
fact_value_of (value.Plain s) = Plain (scalar_of s)
fact_value_of (value.Tagged field) = Tagged (field_of field)
fact_value_of (value.Fields fields) = Fields (map field_of fields.items)

-- a fact
abbrev pub fact_of : LentFact → Fact
fact_of (fact.Single name value) = Single name.now (fact_value_of value)
fact_of (fact.Listed each all values) = Listed each.now all.now (map fact_value_of values.items)

-- values, in their order
abbrev pub values_of : List LentValue → List FactValue
values_of values = map fact_value_of values

-- facts, in their order
abbrev pub facts_of : List LentFact → List Fact
facts_of facts = map fact_of facts

-- facts, and these after them, one by one
abbrev pub added_to : List Fact → List Fact → List Fact
added_to facts [] = facts
added_to facts (fact ∷ more) = added_to (facts ++ fact ∷ []) more

-- these facts were added to others
abbrev pub Adds : List LentFact → List LentFact → List Fact → Type 0
Adds old new added = facts_of new ≡ added_to (facts_of old) added
