use Rattle.std.proofs.Common.{◌≡◌, ◌∙◌, sym, refl, List, ℕ}
use Rattle.sonic_edits.proofs.SoundLemmas.{edit_lines_sound}
use Rattle.sonic_owned.proofs.EditLemmas.{edits_make, edits_mean, edits_sound}
use Rattle.sonic_owned.proofs.ValueLemmas.{closed_means, sound_means, sound_valid}
use Rattle.sonic_owned.specs.Forms.{text as text_of_form}
use Rattle.sonic_reports.proofs.PatchLemmas.{document_sound, raw_means_text}
use Rattle.sonic_reports.specs.Commands.Edits.{refused, made, invalid, valid, IsEditReport, bad_edit, edited}
use Rattle.sonic_reports.specs.Laws.{WritesEdited}
use Rattle.sonic_reports.specs.declared.status.Status.{Status}
use Rattle.sonic_reports.specs.declared.status.Status.TheVariants.{Done}
use Rattle.sonic_reports.proofs.law.edit_writes_the_edited_tree.Goals as goal

-- what is written where all edits are made
writes_edited : {input text : List ℕ} {status : Status} → IsEditReport input text status → status ≡ Done → WritesEdited input text
writes_edited (bad_edit b t e) d = let clash = sym e ∙ d in absurd cc
writes_edited (edited x (invalid s i t e)) d = let clash = sym e ∙ d in absurd cc
writes_edited (edited x (valid v f (refused r t e))) d = let clash = sym e ∙ d in absurd cc
writes_edited (edited {es} {d = place} x (valid v f (made {h} a t e))) d =
    let edits = edit_lines_sound x.are in
    let whole = document_sound v f in
    let (trees, mean) = edits_mean edits in
    let (tree, means) = sound_means whole in
    let (result, makes, meant) = edits_make mean means a in
    let sound = edits_sound edits a whole in
    record {
      edits = es;
      document = place;
      says = x;
      trees = trees;
      mean = mean;
      value = f.bytes;
      is = f.value;
      tree = tree;
      means = raw_means_text means f.form;
      result = result;
      makes = makes;
      written = text_of_form h;
      ends = t;
      valid = sound_valid sound;
      meant = raw_means_text (closed_means sound _ meant) refl;
    }

pub returns : goal.returns
returns c = λ input text report. writes_edited report refl
