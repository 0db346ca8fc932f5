mod AskLaws
mod FormLaws
mod TelescopeLaws
