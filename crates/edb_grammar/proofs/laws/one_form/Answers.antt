use Rattle.edb_grammar.proofs.FormComplete as forms
use Rattle.edb_grammar.proofs.laws.one_form.Goals as goal

pub returns : goal.returns
returns c = forms.one_form
