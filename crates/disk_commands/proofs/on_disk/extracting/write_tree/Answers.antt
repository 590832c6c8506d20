use Rattle.std.proofs.Common.{List, inl, subst, sym}
use Rattle.std.specs.Prelude.{IsTrue}
use Rattle.std.specs.List.Sorted.{IsPermutation}
use Rattle.command_words.specs.rules.Printers.{printers}
use Rattle.command_words.specs.rules.Reports.{SaysOnOutput}
use Rattle.command_words.specs.declared.status.Status.TheVariants as exit
use Rattle.file_tree.specs.rules.Files.{Files}
use Rattle.file_listing.specs.declared.listed.ListedNode.{ListedNode}
use Rattle.file_listing.specs.rules.Listed.{listing_in}
use Rattle.disk_commands.specs.MadeNodes.{AreMadeFor, IsUnfilled}
use Rattle.disk_commands.specs.rules.ExtractedTrees.{IsFilled, written_line}
use Rattle.disk_commands.proofs.ExtractedLemmas.{all_of_tree}
use Rattle.disk_commands.proofs.FilledLemmas.{filled_folder, folder_at, unfilled_folder}
use Rattle.disk_commands.proofs.on_disk.extracting.write_tree.Goals as goal
use Rattle.disk_commands.proofs.on_disk.extracting.write_tree.Goals.{in-Ok-fill_folder}
use Rattle.disk_commands.proofs.on_disk.extracting.write_tree.Goals.{in-Err-fill_folder}

pub fill_folder-requires-clause-listed : goal.fill_folder-requires-clause-listed
fill_folder-requires-clause-listed g c =
    let made = c.in-Ok-make_tree in
    all_of_tree c.args.tree.now made.new.tree.now c.in-Ok.nodes.items c.as_slice.result.now
    made.ensures.made.2 c.as_slice.ensures.value c.in-Ok.ensures.of_tree

pub returns : goal.returns
returns g c =
    let trees = g.R.NewTrees.trees c.args.files.now in
    let made = c.in-Ok-make_tree in
    let at = made.new.path.now in
    let tree = made.new.tree.now in
    let nodes = c.in-Ok.nodes.items in
    let list = c.fill_folder.new.made.items in
    let ends = c.match-fill_folder in
    let out' = ends.out in
    let told = ends.err in
    let filled = ends.filled in
    let kept = c.keep_if_filled in
    let is = subst (λ p. IsTrue (trees.folder p)) (sym made.ensures.made.1) made.ensures.made.0 in
    let listed = subst (λ (f : Files). IsPermutation (listing_in f) nodes)
    (sym made.ensures.made.2) c.in-Ok.ensures.listed in
    inl (folder_at trees c.args.folder.now at c.args.tree.now tree
    (printers c.args.out.now c.args.err.now) (printers out' kept.new.err) kept.result
    made.ensures.made.1 made.ensures.made.2
    (elim c.match-fill_folder.branch [
      | in-Ok-fill_folder w ↦
          let done = w.in-Ok-fill_folder.ensures in
          let whole = subst (λ (ns : List ListedNode). IsFilled trees at tree ns)
          c.as_slice.ensures.value done.filled in
          let are = subst (λ (ns : List ListedNode). AreMadeFor at ns list)
          c.as_slice.ensures.value done.all in
          let said = subst (λ (ns : List ListedNode). SaysOnOutput (written_line ns) exit.Done
          (printers c.args.out.now c.fill_folder.new.err)
          (printers w.say_written-filled.new.out w.say_written-filled.new.err)
          w.say_written-filled.result) w.as_slice-in-Ok-fill_folder.ensures.value
          w.say_written-filled.ensures in
          let quiet = subst (λ e. SaysOnOutput (written_line nodes) exit.Done
          (printers c.args.out.now e)
          (printers w.say_written-filled.new.out w.say_written-filled.new.err)
          w.say_written-filled.result) done.quiet said in
          let says : SaysOnOutput (written_line nodes) exit.Done
          (printers c.args.out.now c.args.err.now) (printers out' told) filled =
          rw (w.out-is, w.err-is, w.filled-is) quiet in
          filled_folder trees at tree nodes list c.args.out.now out' c.args.err.now told
          kept.new.err filled kept.result is listed kept.ensures.keeps kept.ensures.clears whole are
          says
      | in-Err-fill_folder w ↦
          let why = subst (λ (ns : List ListedNode). IsUnfilled trees at tree ns list
          c.args.err.now w.in-Err-fill_folder.status c.fill_folder.new.err)
          c.as_slice.ensures.value w.in-Err-fill_folder.ensures.said in
          let says : IsUnfilled trees at tree nodes list c.args.err.now filled told =
          rw (w.err-is, w.filled-is) why in
          unfilled_folder trees at tree nodes list c.args.out.now out' c.args.err.now told
          kept.new.err filled kept.result is listed kept.ensures.keeps kept.ensures.clears w.out-is
          says
    ]))
