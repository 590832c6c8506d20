use Rattle.std.proofs.Common.{map, take}
use Rattle.std.specs.Io.KnownBytes.{Appends}
use Rattle.disk_commands.specs.FactViews.{field_of}
use Rattle.disk_commands.specs.rules.Facts.{Fields, value_text}
use Rattle.disk_commands.proofs.inspecting.fact_text.spell_fields.Given as goal

-- the first parts are spelled
abbrev pub invariant-loop-field : goal.invariant-loop-field
invariant-loop-field g l = Appends (g.W.Write.contents l.fn.out) (g.W.Write.contents l.out)
    (value_text (Fields (map field_of (take l.field-index l.fields))))
