mod NextLemmas
mod StreamLemmas
