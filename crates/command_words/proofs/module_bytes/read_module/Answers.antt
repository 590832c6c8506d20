use Rattle.std.proofs.Common.{◌≡◌, ◌∙◌, ◌++◌, ℕ, List, [], None, Some, ap, subst, take}
use Rattle.std.specs.Prelude.{IfSome, Option, option_map}
use Rattle.command_words.proofs.module_bytes.read_module.Goals as goal

-- the first bytes of the same reader, in an empty list
first_bytes : (a b : Option (List ℕ)) (limit n : ℕ) (old new : List ℕ) → a ≡ b → limit ≡ n
    → old ≡ []
    → IfSome (option_map (take limit) a) (λ xs. new ≡ old ++ xs) → IfSome b (λ xs. new ≡ take n xs)
first_bytes a b limit n old new same most none read =
    subst (λ z. IfSome z (λ xs. new ≡ take n xs)) same (here a read)
  where
    here : (a : Option (List ℕ)) → IfSome (option_map (take limit) a) (λ xs. new ≡ old ++ xs)
        → IfSome a (λ xs. new ≡ take n xs)
    here None h = tt
    here (Some xs) h = h ∙ ap (λ l. l ++ take limit xs) none ∙ ap (λ k. take k xs) most

pub returns : goal.returns
returns g c =
    first_bytes (g.R.Read.remaining c.take.result.inner) (g.R.Read.remaining c.args.reader)
    c.take.result.limit 2097153 c.new-wasm.result.items c.read_to_end.new.buf.items
    (ap g.R.Read.remaining c.take.ensures.inner) c.take.ensures.limit c.new-wasm.ensures.items
    c.in_ok-read_to_end.ensures.bytes
