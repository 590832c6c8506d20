use Rattle.std.proofs.Common.{inl, inr, refl, ap₂, ◌∙◌, subst, sym}
use Rattle.file_tree.specs.rules.Files.{bytes_of_node}
use Rattle.disk_commands.specs.rules.NewTrees.{HasMade, below}
use Rattle.disk_commands.proofs.ExtractedLemmas.{unmade_at, unwritten_at}
use Rattle.disk_commands.proofs.MadeLemmas.{adds_made, was_made}
use Rattle.disk_commands.proofs.on_disk.extracting.write_node.Goals as goal

pub returns-in-Made-clause-added : goal.returns-in-Made-clause-added
returns-in-Made-clause-added g c =
    let trees = g.R.NewTrees.trees c.args.files.now in
    let node = c.args.node.now in
    let text = c.in-Ok.ensures ∙ ap₂ below c.path.ensures c.path_text.ensures in
    adds_made trees c.args.new.now.path.now node c.args.made.now.items
    c.push_reserved.new.self.items _ c.as_str.result.now c.push_reserved.ensures.items
    c.as_str.ensures.value text refl
    (was_made trees c.as_str.result.now (bytes_of_node c.args.new.now.tree.now node.number)
    node.is_directory c.in-Made.ensures)

pub returns-in-Unwritten-clause-said : goal.returns-in-Unwritten-clause-said
returns-in-Unwritten-clause-said g c =
    let trees = g.R.NewTrees.trees c.args.files.now in
    let folder = c.args.new.now.path.now in
    let node = c.args.node.now in
    let text = c.in-Ok.ensures ∙ ap₂ below c.path.ensures c.path_text.ensures in
    let found = c.in-Unwritten.ensures in
    inr (
      adds_made trees folder node c.args.made.now.items
          c.push_reserved-in-Unwritten.new.self.items _ c.as_str.result.now
          c.push_reserved-in-Unwritten.ensures.items c.as_str.ensures.value text refl
          (subst (λ b. HasMade trees c.as_str.result.now b) (sym found.0) found.1),
      unwritten_at trees c.as_str.result.now c.as_str-in-Unwritten.result.now
          (below folder node.path) c.in-Unwritten.error c.args.err.now
          c.report_unread-status.result c.report_unread-status.new.err
          (c.as_str.ensures.value ∙ text) (c.as_str-in-Unwritten.ensures.value ∙ text) found.2
          c.report_unread-status.ensures,
    )

pub returns-in-Unmade-clause-said : goal.returns-in-Unmade-clause-said
returns-in-Unmade-clause-said g c =
    let text = c.in-Ok.ensures ∙ ap₂ below c.path.ensures c.path_text.ensures in
    inl (
      refl,
      unmade_at (g.R.NewTrees.trees c.args.files.now) c.as_str.result.now
          c.as_str-in-Unmade.result.now (below c.args.new.now.path.now c.args.node.now.path)
          c.in-Unmade.error c.args.err.now c.report_unread.result c.report_unread.new.err
          (c.as_str.ensures.value ∙ text) (c.as_str-in-Unmade.ensures.value ∙ text)
          c.in-Unmade.ensures c.report_unread.ensures,
    )
