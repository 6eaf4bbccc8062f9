mod Growth
mod ScriptLaws
mod Worked
