use Rattle.std.proofs.Common.{◌≡◌, List, [], ◌∷◌, Option, None, refl, arith, rules}
use Rattle.wasm_decode.specs.declared.items.span.Span.{Span}
use Rattle.wasm_decode.specs.Sections.{section_of}
use Rattle.wasm_decode.proofs.Rising.{begins, all_none, goes_on, is_done, ends, next_shorter}
use Rattle.wasm_decode.proofs.Rising.{next_below, some_of, empty_of}
use Rattle.wasm_decode.proofs.sections.split.Goals as goal

pub loop-rest-init : goal.loop-rest-init
loop-rest-init c =
    let bodies : List (Option Span) =
    None ∷ None ∷ None ∷ None ∷ None ∷ None ∷ None ∷ None ∷ None ∷ None ∷ None ∷ None ∷ [] in (
      begins c.args.bytes bodies (all_none bodies (
        refl,
        (
          refl,
          (
            refl,
            (refl, (refl, (refl, (refl, (refl, (refl, (refl, (refl, (refl, tt))))))))),
          ),
        ),
      )),
      refl,
      omega arith,
    )

pub file-requires : goal.file-requires
file-requires c =
    next_below c.loop-rest.last c.loop-rest.rest (section_of c.in-Ok.id c.in-Ok.body)
    c.next_section.new.decoder c.in-Ok.ensures

pub loop-rest-smaller : goal.loop-rest-smaller
loop-rest-smaller c =
    next_shorter c.loop-rest.last c.loop-rest.rest (section_of c.in-Ok.id c.in-Ok.body)
    c.next_section.new.decoder c.in-Ok.ensures

pub loop-rest-preserved : goal.loop-rest-preserved
loop-rest-preserved c =
    let s = section_of c.in-Ok.id c.in-Ok.body in
    let below = next_below c.loop-rest.last c.loop-rest.rest s c.next_section.new.decoder
    c.in-Ok.ensures in
    let next = goes_on c.args.bytes c.loop-rest.last c.loop-rest.rest c.loop-rest.bodies
    c.file.new.bodies s c.next_section.new.decoder c.in-Ok.body c.loop-rest.invariant.0
    c.in-Ok.ensures (some_of (c.loop-rest.rest
    ≡ []) c.is_empty.result c.is_empty.ensures c.loop-rest-test.true) c.loop-rest.invariant.1
    refl c.file.ensures in
    (rw c.max-last.ensures next, search rules, omega (arith, c.max-last.ensures, below))

pub returns-in-Err : goal.returns-in-Err
returns-in-Err c =
    ends c.args.bytes c.loop-rest.last c.loop-rest.rest c.loop-rest.bodies c.loop-rest.invariant.0
    (some_of (c.loop-rest.rest ≡ []) c.is_empty.result c.is_empty.ensures c.loop-rest-test.true)
    c.in-Err.ensures

pub returns : goal.returns
returns c = is_done c.args.bytes c.loop-rest.last c.loop-rest.rest c.loop-rest.bodies
    c.loop-rest.invariant.0 (empty_of (c.loop-rest.rest
    ≡ []) c.is_empty.result c.is_empty.ensures c.loop-rest-test.false)
