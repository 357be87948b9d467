use Rattle.sonic_examples.proofs.settings.set_theme.Goals as goal

pub returns-clause-refused : goal.returns-clause-refused
returns-clause-refused c = rw (c.theme_path-path.ensures, c.from_text-theme.ensures) at c.edit.ensures.refused
