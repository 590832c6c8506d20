-- In a directory no two nodes hang under one name.
use Rattle.std.proofs.Common.{◌≡◌, ◌≢◌, ℕ, ◌+◌, ◌≤◌, ◌⊎◌, inl, inr, cond, eqb, List, [], ◌∷◌, Some}
use Rattle.std.proofs.Common.{None, refl, sym, ap, ◌∙◌, arith}
use Rattle.std.specs.Prelude.{option_map}
use Rattle.std.specs.List.{AllByRecursion}
use Rattle.std.proofs.lemmas.Bool.{cases_eq, eq-eqb, ne_eqb}
use Rattle.file_tree.specs.declared.store.node.Hook.{Hook}
use Rattle.file_tree.specs.declared.store.node.Hook.TheVariants.{Root, Removed, In}
use Rattle.file_tree.specs.declared.store.node.Node.{Node}
use Rattle.file_tree.specs.rules.Files.{Name, Entry}
use Rattle.file_tree.specs.Links.{IsTree, hooked_entries, with_entry, AreRisingNodes}
use Rattle.file_tree.proofs.Lists.{numbers_from}
use Rattle.file_tree.proofs.Order.{HaveDistinctNames}

-- in a directory no two have one name
others_differ : (hook : ℕ → Hook) (next d : ℕ) (tree : IsTree hook next) (k : ℕ) (name : Name)
    → hook k ≡ In d name → (ns : List Node)
    → AllByRecursion (λ (n : Node). hook n.number ≡ n.hook) ns
    → AllByRecursion (λ (n : Node). k + 1 ≤ n.number) ns
    → AllByRecursion (λ (f : Entry). name ≢ f.name) (hooked_entries d ns)
others_differ hook next d tree k name is [] own above = tt
others_differ hook next d tree k name is (n ∷ ns) own above =
    by n.hook refl (others_differ hook next d tree k name is ns own.1 above.1) where
      clash : (other : Name) → n.hook ≡ In d other → name ≢ other
      clash other e same =
          let one : k ≡ n.number = tree.one_each k n.number d name is (own.0 ∙ e
          ∙ ap (In d) (sym same))
          in
          absurd (omega (arith, one, above.0))

      by_test : (x : ℕ) (other : Name) → n.hook ≡ In x other → (x ≡ d) ⊎ (x ≢ d)
          → AllByRecursion (λ (f : Entry). name ≢ f.name) (hooked_entries d ns)
          → AllByRecursion (λ (f : Entry). name
          ≢ f.name) (with_entry (option_map (λ (y : Name). record {
            name = y;
            number = n.number;
          }) (cond (eqb x d) (Some other) None)) (hooked_entries d ns))
      by_test x other e (inl same) later =
          rw (eq-eqb x d same) (clash other (e ∙ ap (λ (y : ℕ). In y other) same), later)
      by_test x other e (inr ne) later = rw (ne_eqb x d ne) later

      by : (h : Hook) → n.hook ≡ h → AllByRecursion (λ (f : Entry). name
          ≢ f.name) (hooked_entries d ns)
          → AllByRecursion (λ (f : Entry). name ≢ f.name) (hooked_entries d (n ∷ ns))
      by Root e later = rw e later
      by Removed e later = rw e later
      by (In x other) e later = rw e (by_test x other e (cases_eq x d) later)

pub distinct_names : (hook : ℕ
    → Hook) (next d : ℕ) (tree : IsTree hook next) (least : ℕ) (ns : List Node) (most : ℕ)
    → AreRisingNodes least ns most → AllByRecursion (λ (n : Node). hook n.number ≡ n.hook) ns
    → HaveDistinctNames (hooked_entries d ns)
distinct_names hook next d tree least [] most rising own = tt
distinct_names hook next d tree least (n ∷ ns) most rising own =
    by n.hook refl (distinct_names hook next d tree (n.number + 1) ns most rising.1 own.1) where
      by_test : (x : ℕ) (other : Name) → n.hook ≡ In x other → (x ≡ d) ⊎ (x ≢ d)
          → HaveDistinctNames (hooked_entries d ns)
          → HaveDistinctNames (with_entry (option_map (λ (y : Name). record {
            name = y;
            number = n.number;
          }) (cond (eqb x d) (Some other) None)) (hooked_entries d ns))
      by_test x other e (inl same) later =
          rw (eq-eqb x d same) (
            others_differ hook next d tree n.number other (own.0 ∙ e
                ∙ ap (λ (y : ℕ). In y other) same) ns own.1
                (numbers_from (n.number + 1) ns most rising.1),
            later,
          )
      by_test x other e (inr ne) later = rw (ne_eqb x d ne) later

      by : (h : Hook) → n.hook ≡ h → HaveDistinctNames (hooked_entries d ns)
          → HaveDistinctNames (hooked_entries d (n ∷ ns))
      by Root e later = rw e later
      by Removed e later = rw e later
      by (In x other) e later = rw e (by_test x other e (cases_eq x d) later)
